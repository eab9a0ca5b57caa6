-- The home that was begun was served, and what is left tells of its books.
use Rattle.std.proofs.Common.{◌≡◌, ℕ, List, inr, length, map, sym, ap, ◌∙◌, subst}
use Rattle.std.proofs.lemmas.List.{length-map}
use Rattle.share_api.specs.Contents.{Bytes}
use Rattle.home_locks.specs.Accounts.{Started, started_at}
use Rattle.home_seats.specs.Seats.{lock_seen}
use Rattle.user_state.specs.declared.state.UserState.{UserState}
use Rattle.serve_words.specs.Limits.{client_count, seen_of}
use Rattle.serve_run.specs.Histories.{Histories, IsEnded}
use Rattle.serve_run.specs.Left.{left_over}
use Rattle.serve_run.specs.Outside.{Outside}
use Rattle.serve_run.specs.Serving.{EndsSo}
use Rattle.serve_run.proofs.Joined.{histories_of}
use Rattle.serve_run.proofs.Numbers.{images_of}
use Rattle.serve_run.proofs.Sharing.{serves_since}
use Rattle.serve_run.proofs.command.serve_asked.Goals as goal

pub returns-in-Ok-begin_asked : goal.returns-in-Ok-begin_asked
returns-in-Ok-begin_asked g c =
    let outside : Outside g.row.D-Board.Denot g.row.D-Source.Denot g.row.D-Sink.Denot g.row.D-Clock.Denot = record {
      disk = g.D.Board.Board.disk;
      board_faults = g.D.Board.Board.faults;
      left = g.D.Source.Source.left;
      taken = g.D.Source.Source.taken;
      source_faults = g.D.Source.Source.faults;
      written = g.D.Sink.Sink.written;
      sink_faults = g.D.Sink.Sink.faults;
      given = g.D.Clock.Clock.given;
    } in
    let before = g.D.Desk.seen c.args.desk.now in
    let between = g.D.Desk.seen c.begin_asked.new.desk in
    let after = g.D.Desk.seen c.serve_begun.new.desk in
    let is = c.in-Ok-begin_asked.ensures.begun in
    let home = c.in-Ok-begin_asked.begun.home in
    let locks = map (λ lock. lock_seen lock.id lock.first.seat lock.first.state lock.first.era) home.locks.items in
    let left = c.serve_begun.result.0 in
    let ending = c.serve_begun.result.1 in
    let named = (seen_of c.args.options).accounts in
    let names : left.names.items ≡ home.names.items = ap (λ names. names.items) c.serve_begun.ensures.names in
    let many : length left.books.items ≡ length home.names.items =
    c.serve_begun.ensures.many
    ∙ sym (length-map home.locks.items
    (λ lock. lock_seen lock.id lock.first.seat lock.first.state lock.first.era))
    ∙ c.in-Ok-begin_asked.ensures.servable.many in
    let ended = subst
    (λ (starts : List (Started UserState)). IsEnded outside home.shared.first.device starts left.board
    left.books.items)
    (sym (images_of (λ at. started_at at.seat at.state)
    (λ lock. lock_seen lock.id lock.first.seat lock.first.state lock.first.era) home.locks.items))
    c.serve_begun.ensures.ended in
    let histories = histories_of outside is.handed named is.opening home.shared.first.device
    home.shared.id home.names.items locks home.idle left.board left.books.items is.begun
    (λ durable held. c.begun_accounts_open.ensures is.handed named is.opening
    home.shared.first.device home.shared.id home.names.items locks home.idle durable is.begun held)
    many ended in
    let ends = serves_since before between after outside c.first_client.result c.client_count.result
    (left_over left) ending c.begin_asked.ensures.clients_kept is.quiet c.serve_begun.ensures.ends in
    record {
      did = inr (inr (record {
        handed = is.handed;
        handed_is = is.handed_is;
        opening = is.opening;
        opening_is = is.opening_is;
        histories = subst (λ (names : List Bytes). Histories outside is.handed named is.opening left.board names
            left.books.items) (sym names) histories;
        ends = subst (λ (first : ℕ). EndsSo outside first (client_count c.args.options.clients) before after
            (left_over left) ending) c.first_client.ensures.value
            (subst (λ (count : ℕ). EndsSo outside c.first_client.result count before after (left_over left) ending)
            c.client_count.ensures.value ends);
      }));
    }

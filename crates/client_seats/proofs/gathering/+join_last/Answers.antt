-- The last seat of one client, and of one client more.
use Rattle.std.proofs.Common.{rules, ◌≡◌, [], ◌∷◌, ◌++◌, Some, map, length, ap}
use Rattle.std.proofs.lemmas.List.{nil_from_length}
use Rattle.client_seats.specs.Clients.{client_view}
use Rattle.client_seats.proofs.GatheringLemmas.{joins_one, joins_more}
use Rattle.client_seats.proofs.gathering.+join_last.Goals as goal

pub returns-then-is_empty : goal.returns-then-is_empty
returns-then-is_empty g t c =
    let split : c.args.clients.now ≡ c.unwrap.result.0.now ∷ c.unwrap.result.1.now = search rules in
    let empty : length c.unwrap.result.1.now ≡ 0 = search rules in
    let none = nil_from_length c.unwrap.result.1.now empty in
    let popped : c.unwrap.result.0.now.seats.items ≡ c.pop.new.self.items ++ Some c.unwrap-own.result ∷ [] =
    search rules in
    joins_one c.args.lock.now.id _ _ (client_view c.unwrap.result.0.now) _ _ (ap (map client_view) split)
    (ap (map client_view) none) popped c.requires.last

pub returns : goal.returns
returns g t c =
    let split : c.args.clients.now ≡ c.unwrap.result.0.now ∷ c.unwrap.result.1.now = search rules in
    let popped : c.unwrap.result.0.now.seats.items ≡ c.pop.new.self.items ++ Some c.unwrap-own.result ∷ [] =
    search rules in
    joins_more c.args.lock.now.id _ _ _ (client_view c.unwrap.result.0.now) _ _ _ _ (ap (map client_view) split)
    popped c.requires.last c.join_last-joined.ensures c.join.ensures.seat

use Rattle.std.proofs.Common.{◌≡◌, ℕ, List, [], refl, sym, subst}
use Rattle.share_api.specs.Contents.{Bytes}
use Rattle.share_api.specs.declared.step.Op.TheVariants.{Names}
use Rattle.share_api.specs.declared.step.Reply.TheVariants.{Listed, Failed, NoMemory}
use Rattle.platform_core.specs.Kept.{board_of, memory_of, accounts_of}
use Rattle.platform_core.specs.Records.{account_at, AreNames}
use Rattle.platform_core.proofs.BoardLemmas.{read_answers}
use Rattle.platform_core.proofs.LookLemmas.{known_then}
use Rattle.platform_core.proofs.records.Records.names.Goals as goal

pub returns-in-Err-Failed-clause-answers : goal.returns-in-Err-Failed-clause-answers
returns-in-Err-Failed-clause-answers g c =
    read_answers (account_at (accounts_of c.args.self.now) c.args.account) (g.B.Board.disk (board_of c.args.self.now))
    (g.B.Board.disk (board_of c.listed.new.self)) (memory_of c.args.self.now) (memory_of c.listed.new.self)
    (known_then (g.B.Board.disk (board_of c.args.self.now)) (g.B.Board.disk (board_of c.listed.new.self))
    (memory_of c.args.self.now) (memory_of c.listed.new.self) c.listed.ensures.looked)
    Names Failed refl c.listed.ensures.looked.unchanged (λ now told known. tt)

pub returns-in-Err-clause-answers : goal.returns-in-Err-clause-answers
returns-in-Err-clause-answers g c =
    read_answers (account_at (accounts_of c.args.self.now) c.args.account) (g.B.Board.disk (board_of c.args.self.now))
    (g.B.Board.disk (board_of c.listed.new.self)) (memory_of c.args.self.now) (memory_of c.listed.new.self)
    (known_then (g.B.Board.disk (board_of c.args.self.now)) (g.B.Board.disk (board_of c.listed.new.self))
    (memory_of c.args.self.now) (memory_of c.listed.new.self) c.listed.ensures.looked)
    Names NoMemory refl c.listed.ensures.looked.unchanged (λ now told known. tt)

pub returns-in-Ok-clause-answers : goal.returns-in-Ok-clause-answers
returns-in-Ok-clause-answers g c =
    let account = account_at (accounts_of c.args.self.now) c.args.account in
    read_answers account (g.B.Board.disk (board_of c.args.self.now)) (g.B.Board.disk (board_of c.listed.new.self))
    (memory_of c.args.self.now) (memory_of c.listed.new.self)
    (known_then (g.B.Board.disk (board_of c.args.self.now)) (g.B.Board.disk (board_of c.listed.new.self))
    (memory_of c.args.self.now) (memory_of c.listed.new.self) c.listed.ensures.looked)
    Names (Listed c.new-in-Ok.result) refl c.listed.ensures.looked.unchanged
    (λ now told known. subst (λ (l : List Bytes × List ℕ). AreNames account now l.0 × (l.1 ≡ []))
    (sym c.new-in-Ok.ensures.value) (c.in-Ok.ensures.listed now told known, c.new.ensures.items))

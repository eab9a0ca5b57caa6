use Rattle.std.proofs.Common.{◌≡◌, ◌∙◌, List, [], get_or, ap}
use Rattle.std.specs.Prelude.{IsPermutation, IsSorted}
use Rattle.std.specs.Ordering.{nat_cmp}
use Rattle.std.specs.Cmp.Lexicographic.{slice_cmp}
use Rattle.std.proofs.lemmas.List.{get_or_default}
use Rattle.share_api.specs.Contents.{Bytes}
use Rattle.platform_core.specs.Records.{account_at}
use Rattle.platform_core.specs.Kept.{board_of, accounts_of, memory_of}
use Rattle.platform_core.proofs.LookLemmas.{looked_none, listed_all, if_both}
use Rattle.platform_core.proofs.records.Records.listed.Goals as goal

pub returns-in_default-clause-looked : goal.returns-in_default-clause-looked
returns-in_default-clause-looked g c = looked_none (g.B.Board.disk (board_of c.args.self.now))
    (memory_of c.args.self.now) (g.met.B.Board.only_now (board_of c.args.self.now))

pub returns-in-Ok-those_there-clause-listed : goal.returns-in-Ok-those_there-clause-listed
returns-in-Ok-those_there-clause-listed g c =
    let accounts = accounts_of c.args.self.now in
    let account = account_at accounts c.args.account in
    let shown = c.index-accounts-account.result in
    let is : c.as_str-account.result.now ≡ account =
    c.as_str-account.ensures.value ∙ c.index-accounts-account.is ∙ ap (λ (xs : List Bytes). get_or xs c.args.account
    shown) c.accounts.ensures.value ∙ get_or_default accounts c.args.account shown [] c.requires in
    if_both c.in_order.result (λ names. IsPermutation c.in-Ok-those_there.there.items names.items)
    (λ names. IsSorted (slice_cmp nat_cmp) names.items) _
    (λ names moved rising now told known.
    listed_all account c.as_str-account.result.now now (memory_of c.args.self.now) c.names.result.now c.in-Ok.own.items
    c.deref.result.now c.in-Ok-those_there.there.items names.items
    is c.names.ensures.value c.deref.ensures.value known c.in-Ok.ensures
    (c.in-Ok-those_there.ensures.there now told known) moved rising)
    c.in_order.ensures.permutation c.in_order.ensures.rising

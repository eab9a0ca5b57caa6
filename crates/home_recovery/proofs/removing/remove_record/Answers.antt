use Rattle.std.proofs.Common.{◌≡◌, [], ◌∷◌, sym, ap, ◌∙◌, subst, is_some, IsOk, true≢false}
use Rattle.std.specs.Prelude.{IsErrOf, not, bytes_eq}
use Rattle.std.proofs.lemmas.Slice.Eq.{bytes_eq-Decides}
use Rattle.record_names.specs.Names.{account_of}
use Rattle.share_api.specs.declared.step.Write.TheVariants.{Remove}
use Rattle.stored_home.specs.declared.fault.StoreFault.TheVariants as faults
use Rattle.home_recovery.specs.Sweeps.{Sweeps}
use Rattle.home_recovery.proofs.BoundLemmas.{not_false}
use Rattle.home_recovery.proofs.OwnNames.{own_filed}
use Rattle.home_recovery.proofs.SweepLemmas.{sweeps_stay, sweeps_one, swept_foreign, swept_stays, swept_removed}
use Rattle.home_recovery.proofs.removing.remove_record.Goals as goal
use Rattle.home_recovery.proofs.removing.remove_record.Goals.{then-ne-via-then-ne, then-ne-via-else-ne+then-stays}

-- the record is another account's, or it stays
pub returns-then-ne-clause-sweeps : goal.returns-then-ne-clause-sweeps
returns-then-ne-clause-sweeps g c =
    let seen = g.S.Share.seen c.args.share.now in
    let lost = is_some seen.lost in
    let account = c.args.account.now in
    let stored = c.args.stored.now in
    let name = c.args.name.now in
    elim c.then-ne.branch [
      | then-ne-via-then-ne w ↦
          sweeps_stay lost account stored name seen (swept_foreign lost account stored name c.requires.serves.plain c.requires.is c.requires.other
          (λ same. true≢false (sym w.if-ne.true ∙ c.ne.ensures
          ∙ ap not ((bytes_eq-Decides c.account.result.now account).1 (c.account.ensures.value ∙ same)))))
      | then-ne-via-else-ne+then-stays w ↦
          sweeps_stay lost account stored name seen (swept_stays lost account stored name c.requires.is c.requires.other
          (w.stays.ensures.named w.if-stays.true))
    ]

pub remove-requires-clause-own : goal.remove-requires-clause-own
remove-requires-clause-own g c =
    let account = c.args.account.now in
    let name = c.args.name.now in
    let same : account_of name ≡ account = sym c.account.ensures.value ∙ (bytes_eq-Decides c.account.result.now account).0
    (not_false (bytes_eq c.account.result.now account) (sym c.ne.ensures ∙ c.if-ne.false)) in
    (account, c.requires.serves.own, own_filed account c.requires.serves.plain name c.requires.is same c.requires.other)

-- it is removed
pub returns-clause-sweeps : goal.returns-clause-sweeps
returns-clause-sweeps g c =
    let seen = g.S.Share.seen c.args.share.now in
    let lost = is_some seen.lost in
    let account = c.args.account.now in
    let stored = c.args.stored.now in
    let name = c.args.name.now in
    let same : account_of name ≡ account = sym c.account.ensures.value ∙ (bytes_eq-Decides c.account.result.now account).0
    (not_false (bytes_eq c.account.result.now account) (sym c.ne.ensures ∙ c.if-ne.false)) in
    subst (λ r. Sweeps lost account stored (name ∷ []) seen (g.S.Share.seen c.remove.new.self) (IsOk r) (IsErrOf r faults.Failed))
    (sym c.told.ensures)
    (sweeps_one lost account stored name seen (g.S.Share.seen c.remove.new.self) 0 (Remove name) c.remove.result
    c.remove.ensures.made c.remove.ensures.only
    (own_filed account c.requires.serves.plain name c.requires.is same c.requires.other, c.stays.ensures.loose c.if-stays.false)
    (swept_removed lost account stored name c.requires.is c.requires.other))

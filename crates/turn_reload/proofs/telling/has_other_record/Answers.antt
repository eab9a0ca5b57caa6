use Rattle.std.proofs.Common.{Err, inr, sym, ap, ◌∙◌, subst}
use Rattle.std.proofs.lemmas.Result.{err_from_is_err_and}
use Rattle.record_names.specs.Names.{file_name}
use Rattle.share_api.specs.Conditions.{IsOf}
use Rattle.share_api.specs.Seen.{ShareSeen}
use Rattle.stored_home.specs.declared.fault.StoreFault.TheVariants.{NoMemory}
use Rattle.home_recovery.proofs.CallLemmas.{starved_no_failed}
use Rattle.home_recovery.proofs.ReadLemmas.{reads_none, reads_stocked}
use Rattle.turn_reload.specs.Evidence.{TellsRecord}
use Rattle.turn_reload.proofs.telling.has_other_record.Goals as goal

-- no call could be stocked
pub returns-in_err-stock-clause-read : goal.returns-in_err-stock-clause-read
returns-in_err-stock-clause-read g c =
    let p = err_from_is_err_and c.from_residual.result c.from_residual.ensures.1 in
    let ready = g.S.Share.seen c.stock.new.self in
    let P = TellsRecord c.args.account.now c.args.name.now c.args.bytes.now (Err NoMemory) in
    rw (p.1, p.2) (reads_stocked (g.S.Share.seen c.args.share.now) ready ready _ _ 1 P c.stock.ensures.same c.stock.ensures.more
    (reads_none ready _ _ 1 P (λ f. starved_no_failed f) (λ contents. tt)))

pub find_bytes-requires-clause-own : goal.find_bytes-requires-clause-own
find_bytes-requires-clause-own g c = (
  c.args.account.now,
  subst (λ o. IsOf o c.args.account.now) (sym (ap (λ (s : ShareSeen). s.owner) c.stock.ensures.same)) c.requires.serves.own,
  inr (inr (c.args.name.now, c.file-named.ensures.value ∙ ap (file_name c.args.account.now) c.as_str.ensures.value)),
)

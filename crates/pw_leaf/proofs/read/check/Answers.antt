use Rattle.std.proofs.Common.{◌≡◌, Ok, Err, length, take, drop, sym, ◌∙◌, ap, arith}
use Rattle.std.specs.Prelude.{bytes_eq}
use Rattle.std.proofs.lemmas.Bool.{not-true, not-false}
use Rattle.std.proofs.lemmas.Result.{err_from_is_err_and}
use Rattle.std.proofs.lemmas.List.{take_all, length-drop}
use Rattle.hmac_sha.specs.Hmac.{hmac}
use Rattle.pw_leaf.specs.declared.leaf.Leaf.{Leaf}
use Rattle.pw_leaf.specs.declared.leaf.PublicLeaf.{PublicLeaf}
use Rattle.pw_leaf.specs.declared.fault.LeafFault.TheVariants.{BadMac}
use Rattle.pw_leaf.specs.Contents.{leaf_of}
use Rattle.pw_leaf.specs.Reading.{look_at, mac_of, text_of, contents_in, secrets_in}
use Rattle.pw_leaf.proofs.ReadLemmas.{look_at-is, leaf_at-fault, leaf_at-unsigned, leaf_at-signed, told}
use Rattle.pw_leaf.proofs.read.check.Goals as goal

pub returns-in_err-shown : goal.returns-in_err-shown
returns-in_err-shown c =
    let p = err_from_is_err_and c.from_residual.result c.from_residual.ensures.1 in
    let value = p.1 ∙ ap Err p.2 ∙ sym (leaf_at-fault c.args.keys.now c.args.bytes.now c.in_err-shown.field-0.0 (sym c.look.ensures.value ∙ c.in_err-shown.was)) in
    let more = told c.args.keys.now c.args.bytes.now c.from_residual.result value in
    record { value = value; contents = more.contents; fault = more.fault }

-- the MAC that was read differs
pub returns-then-ne : goal.returns-then-ne
returns-then-ne c =
    let keys = c.args.keys.now in
    let bytes = c.args.bytes.now in
    let shown = c.in_ok-shown.shown in
    let looked : look_at bytes ≡ Ok shown = sym c.look.ensures.value ∙ c.in_ok-shown.was in
    let is = look_at-is bytes shown looked in
    let mac = ap (λ (s : PublicLeaf). s.mac) is.same in
    let computed : c.mac.result ≡ hmac keys.mac (text_of bytes) = c.mac.ensures ∙ ap (hmac keys.mac) c.split_at.ensures.front in
    let test = (λ i. bytes_eq (sym mac i) (sym computed i)) ∙ not-true (bytes_eq shown.mac c.mac.result) (sym c.ne.ensures ∙ c.if-ne.true) in
    let value = sym (leaf_at-unsigned keys bytes shown looked test) in
    let more = told keys bytes (Err BadMac) value in
    record { value = value; contents = more.contents; fault = more.fault }

pub returns : goal.returns
returns c =
    let keys = c.args.keys.now in
    let bytes = c.args.bytes.now in
    let shown = c.in_ok-shown.shown in
    let looked : look_at bytes ≡ Ok shown = sym c.look.ensures.value ∙ c.in_ok-shown.was in
    let is = look_at-is bytes shown looked in
    let same = is.same in
    let mac = ap (λ (s : PublicLeaf). s.mac) same in
    let computed : c.mac.result ≡ hmac keys.mac (text_of bytes) = c.mac.ensures ∙ ap (hmac keys.mac) c.split_at.ensures.front in
    let test = (λ i. bytes_eq (sym mac i) (sym computed i)) ∙ not-false (bytes_eq shown.mac c.mac.result) (sym c.ne.ensures ∙ c.if-ne.false) in
    let secrets : c.secrets_in-secrets.result ≡ secrets_in keys bytes = c.secrets_in-secrets.ensures in
    let les = c.hash_at.ensures ∙ ap (take 32) secrets in
    let hes = c.hash_at-2.ensures ∙ ap (λ s. take 32 (drop 32 s)) secrets in
    let size : length c.secrets_in-secrets.result ≡ 96 = omega arith in
    let rest : length (drop 64 c.secrets_in-secrets.result) ≡ 32 = length-drop 64 c.secrets_in-secrets.result ∙ omega arith in
    let reset = c.hash_at-3.ensures ∙ take_all 32 (drop 64 c.secrets_in-secrets.result) (omega arith) ∙ ap (drop 64) secrets in
    let leaf : leaf_of (contents_in keys bytes) (mac_of bytes) ≡ _ = sym (λ i. record {
      label = PublicLeaf.label (same i);
      schedule = PublicLeaf.schedule (same i);
      wrong = PublicLeaf.wrong (same i);
      last = PublicLeaf.last (same i);
      les = les i;
      hes = hes i;
      reset = reset i;
      mac = mac i;
    }) in
    let value = sym (leaf_at-signed keys bytes shown looked test ∙ ap (λ (l : Leaf). Ok l) leaf) in
    let more = told keys bytes _ value in
    record { value = value; contents = more.contents; fault = more.fault }

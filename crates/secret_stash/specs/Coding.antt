-- How a stash's contents are told apart: as pairs of their parts.
use Rattle.std.specs.Prelude.{◌≡◌, ℕ, List, Option, refl}
use Rattle.std.specs.Coded.{Coded, code_by, coded×, coded_ℕ, coded_list, coded_option}
use Rattle.std.specs.FinMap.{code}
use Rattle.sealed_text.specs.declared.sealed.Sealed.{Sealed}
use Rattle.stash_format.specs.declared.block.Form.{Form}
use Rattle.stash_format.specs.declared.block.Block.{Block}
use Rattle.stash_format.specs.declared.contents.Contents.{Contents}
use Rattle.stash_format.specs.Blocks.{Blocks}
use Rattle.stash_format.specs.Forms.{form_number}
use Rattle.stash_format.specs.Fields.{form_of}
use Rattle.stash_format.specs.declared.block.Form.TheVariants.{Plain, Bound}

abbrev pub coded_bytes : Coded (List ℕ)
coded_bytes = coded_list coded_ℕ

abbrev pub coded_sealed : Coded Sealed
coded_sealed =
    code_by (List ℕ × (List ℕ × List ℕ)) (coded× coded_bytes (coded× coded_bytes coded_bytes)) (λ s. (s.iv, (s.text, s.tag)))
    (λ p. record { iv = p.0; text = p.1.0; tag = p.1.1 }) (λ _. refl)

-- a form is told by its number
pub form_of-number : (form : Form) → form_of (form_number form) ≡ form
form_of-number Plain = refl
form_of-number Bound = refl

abbrev pub coded_form : Coded Form
coded_form = code_by ℕ coded_ℕ form_number form_of form_of-number

abbrev pub coded_block : Coded Block
coded_block =
    code_by (ℕ × (Form × (List ℕ × (List ℕ × List ℕ)))) (coded× coded_ℕ (coded× coded_form (coded× coded_bytes (coded× coded_bytes coded_bytes))))
    (λ b. (b.edition, (b.form, (b.iv, (b.text, b.tag)))))
    (λ p. record { edition = p.0; form = p.1.0; iv = p.1.1.0; text = p.1.1.1.0; tag = p.1.1.1.1 }) (λ _. refl)

abbrev pub coded_contents : Coded Contents
coded_contents =
    code_by (List ℕ × (ℕ × (Option Sealed × Blocks)))
    (coded× coded_bytes (coded× coded_ℕ (coded× (coded_option coded_sealed) (code coded_bytes coded_block))))
    (λ c. (c.account, (c.next, (c.payload, c.blocks))))
    (λ p. record { account = p.0; next = p.1.0; payload = p.1.1.0; blocks = p.1.1.1 }) (λ _. refl)

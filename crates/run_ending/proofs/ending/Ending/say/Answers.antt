use Rattle.std.proofs.Common.{◌≡◌, ℕ, List, ◌++◌, sym, ap, ◌∙◌, append_assoc}
use Rattle.std.specs.Prelude.{codes}
use Rattle.std.specs.Fmt.{decimal}
use Rattle.run_ending.specs.declared.ending.Ending.{Ending}
use Rattle.run_ending.specs.Ending.{text_of}
use Rattle.run_ending.proofs.ending.Ending.say.Goals as goal

-- one more text behind what was said
then : (said a b x y : List ℕ) → x ≡ said ++ a → y ≡ x ++ b → y ≡ said ++ (a ++ b)
then said a b x y first second = second ∙ (ap (λ (front : List ℕ). front ++ b) first ∙ append_assoc said a b)

-- five texts, one after another
pub returns-in-TooMany : goal.returns-in-TooMany
returns-in-TooMany c =
    let said = c.args.said.now.items in
    let accounts = codes "too many accounts " in
    let many : ℕ = c.in-TooMany.accounts in
    let clients : ℕ = c.in-TooMany.clients in
    let one = accounts ++ decimal many in
    let two = one ++ codes " clients " in
    let three = two ++ decimal clients in
    record {
      said = then said three (codes "\n") c.say_number-in-TooMany-2.new.said.items c.say-in-TooMany-3.new.said.items
          (then said two (decimal clients) c.say-in-TooMany-2.new.said.items c.say_number-in-TooMany-2.new.said.items
          (then said one (codes " clients ") c.say_number-in-TooMany.new.said.items c.say-in-TooMany-2.new.said.items
          (then said accounts (decimal many) c.say-in-TooMany.new.said.items c.say_number-in-TooMany.new.said.items
          c.say-in-TooMany.ensures.items c.say_number-in-TooMany.ensures.items)
          c.say-in-TooMany-2.ensures.items)
          c.say_number-in-TooMany-2.ensures.items)
          c.say-in-TooMany-3.ensures.items
          ∙ ap (λ (ending : Ending). said ++ text_of ending) (sym c.in-TooMany.is);
    }

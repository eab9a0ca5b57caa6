-- A ledger's leaf is what its insert gave it, with its wrong tries since.
use Rattle.std.proofs.Common.{◌≡◌, ℕ, ◌+◌, Bool, true, false, cond, eqb, Option, Some, None, List, [], ◌∷◌, refl, sym, ◌∙◌, ap}
use Rattle.std.specs.Prelude.{option_map}
use Rattle.std.proofs.lemmas.Bool.{eqb-true}
use Rattle.pw_types.specs.declared.stamp.Stamp.{Stamp}
use Rattle.pw_leaf.specs.declared.keys.ChipKeys.{ChipKeys}
use Rattle.pw_leaf.specs.Contents.{Contents, new_contents, no_stamp, bumped, cleared}
use Rattle.pw_chip.specs.declared.reply.Reply.{Reply}
use Rattle.pw_chip.specs.declared.reply.Reply.TheVariants.{Done, Inserted, Released, Cleared, Wrong}
use Rattle.pw_chip.specs.State.{new_state}
use Rattle.pw_chip.specs.Calls.{CallData, ResetTree, Insert, Remove, Try, Reset}
use Rattle.pw_chip.specs.Ledger.{leaves_after, Event, new_ledger}
use Rattle.pw_chip.specs.History.{history_after, ledger_in_the_end, Noted, leaves_of, is_wrong_at, begins_at, wrongs_since, last_wrong_since, inserts_at, ends_at, given_by, inserted_since, counted, leaf_since}
use Rattle.pw_chip.proofs.CountLemmas.{same_ledger}

-- of the leaf at a label there were k wrong tries, the last of them at this stamp, since the insert gave it these contents
module _ (k : ℕ) (last : Stamp) (given : Option Contents) where
  counted_cleared : (o : Option Contents) → option_map cleared (option_map (counted k last) o) ≡ option_map (counted 0 no_stamp) o
  counted_cleared None = refl
  counted_cleared (Some x) = refl

  counted_bumped : (now : Stamp) (o : Option Contents) → option_map (bumped now) (option_map (counted k last) o) ≡ option_map (counted (k + 1) now) o
  counted_bumped now None = refl
  counted_bumped now (Some x) = refl

  -- an insert, at this label or another
  inserted : (here : Bool) (x : Contents) (leaf : Option Contents) → x ≡ counted 0 no_stamp x → leaf ≡ option_map (counted k last) given
      → cond here (Some x) leaf ≡ option_map (counted (cond here 0 k) (cond here no_stamp last)) (cond here (Some x) given)
  inserted true x leaf fresh e = ap (λ y. Some y) fresh
  inserted false x leaf fresh e = e

  removed : (here : Bool) (leaf : Option Contents) → leaf ≡ option_map (counted k last) given → cond here None leaf ≡ option_map (counted k last) (cond here None given)
  removed true leaf e = refl
  removed false leaf e = e

  begun_again : (here : Bool) (leaf there : Option Contents) → leaf ≡ option_map (counted k last) given → (here ≡ true → there ≡ leaf)
      → cond here (option_map cleared there) leaf ≡ option_map (counted (cond here 0 k) (cond here no_stamp last)) given
  begun_again true leaf there e same = ap (option_map cleared) (same refl ∙ e) ∙ counted_cleared given
  begun_again false leaf there e same = e

  one_more : (now : Stamp) (here : Bool) (leaf there : Option Contents) → leaf ≡ option_map (counted k last) given → (here ≡ true → there ≡ leaf)
      → cond here (option_map (bumped now) there) leaf ≡ option_map (counted (cond here (k + 1) k) (cond here now last)) given
  one_more now true leaf there e same = ap (option_map (bumped now)) (same refl ∙ e) ∙ counted_bumped now given
  one_more now false leaf there e same = e

  -- one call more
  leaf_step : (now : Stamp) (call : CallData) (reply : Reply) (leaves : ℕ → Option Contents) (label : ℕ) → leaves label ≡ option_map (counted k last) given
      → leaves_after now call reply leaves label
      ≡ option_map (counted (cond (begins_at label call reply) 0 (cond (is_wrong_at label call reply) (k + 1) k)) (cond (begins_at label call reply) no_stamp (cond (is_wrong_at label call reply) now last)))
      (cond (inserts_at label call reply) (given_by call) (cond (ends_at label call reply) None given))
  unfolding leaves_after begins_at is_wrong_at inserts_at ends_at given_by
  leaf_step now ResetTree Done leaves label e = refl
  leaf_step now (Insert l aux mac les hes reset schedule iv) (Inserted r) leaves label e = inserted (eqb label l) (new_contents l les hes reset schedule iv) (leaves label) refl e
  leaf_step now (Remove l aux mac) Done leaves label e = removed (eqb label l) (leaves label) e
  leaf_step now (Try l aux leaf les) (Released r hes) leaves label e = begun_again (eqb label l) (leaves label) (leaves l) e (λ same. ap leaves (sym (eqb-true label l same)))
  leaf_step now (Try l aux leaf les) (Wrong r) leaves label e = one_more now (eqb label l) (leaves label) (leaves l) e (λ same. ap leaves (sym (eqb-true label l same)))
  leaf_step now (Reset l aux leaf reset) (Cleared r) leaves label e = begun_again (eqb label l) (leaves label) (leaves l) e (λ same. ap leaves (sym (eqb-true label l same)))
  leaf_step now _ _ leaves label e = e

-- the ledger's leaves after a history
pub leaf_is : (history : List Noted) (label : ℕ) → leaves_of history label ≡ leaf_since label history
unfolding leaves_of leaf_since wrongs_since last_wrong_since inserted_since
leaf_is [] label = refl
leaf_is (noted ∷ older) label =
    leaf_step (wrongs_since label older) (last_wrong_since label older) (inserted_since label older) noted.stamp noted.call noted.reply (leaves_of older) label (leaf_is older label)

-- the ledger's leaves after a run
pub leaf_of_run : (keys : ChipKeys) (events : List Event) (label : ℕ)
    → (ledger_in_the_end (new_state keys) new_ledger events).leaves label ≡ leaf_since label (history_after (new_state keys) new_ledger events [])
unfolding leaves_of
leaf_of_run keys events label =
    ap (λ f. f label) (sym (same_ledger events (new_state keys) new_ledger [] refl)) ∙ leaf_is (history_after (new_state keys) new_ledger events []) label

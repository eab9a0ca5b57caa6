-- A leaf's count is the number of wrong tries since it began.
use Rattle.std.proofs.Common.{◌≡◌, ℕ, ◌+◌, Bool, true, false, cond, eqb, Option, Some, None, List, [], ◌∷◌, refl, sym, ◌∙◌, ap}
use Rattle.std.specs.Prelude.{option_map}
use Rattle.std.proofs.lemmas.Bool.{eqb-true}
use Rattle.pw_types.specs.declared.stamp.Stamp.{Stamp}
use Rattle.pw_leaf.specs.declared.keys.ChipKeys.{ChipKeys}
use Rattle.pw_leaf.specs.Contents.{Contents, new_contents, bumped, cleared}
use Rattle.pw_chip.specs.declared.reply.Reply.{Reply}
use Rattle.pw_chip.specs.declared.reply.Reply.TheVariants.{Done, Inserted, Released, Cleared, Wrong}
use Rattle.pw_chip.specs.State.{ChipState, booted, new_state}
use Rattle.pw_chip.specs.Calls.{CallData, ResetTree, Insert, Remove, Try, Reset}
use Rattle.pw_chip.specs.Step.{step}
use Rattle.pw_chip.specs.Ledger.{leaves_after, Event, Boots, Calls, Ledger, noted_call, noted_boot, new_ledger}
use Rattle.pw_chip.specs.History.{history_after, ledger_in_the_end, Noted, leaves_of, is_wrong_at, begins_at, wrongs_since}

begun : (b : Bool) (o t : Option Contents) (x : Contents) (k : ℕ) → ((y : Contents) → o ≡ Some y → y.wrong ≡ 0) → ((y : Contents) → t ≡ Some y → y.wrong ≡ k) → cond b o t ≡ Some x → x.wrong ≡ cond b 0 k
begun true o t x k f g e = f x e
begun false o t x k f g e = g x e

blank_cleared : (o : Option Contents) (y : Contents) → option_map cleared o ≡ Some y → y.wrong ≡ 0
blank_cleared None y e = cc
blank_cleared (Some z) y e = let same : cleared z ≡ y = cc e in sym (ap (λ (v : Contents). v.wrong) same)

one_more : (now : Stamp) (o : Option Contents) (y : Contents) (k : ℕ) → ((z : Contents) → o ≡ Some z → z.wrong ≡ k) → option_map (bumped now) o ≡ Some y → y.wrong ≡ k + 1
one_more now None y k f e = cc
one_more now (Some z) y k f e = let same : bumped now z ≡ y = cc e in sym (ap (λ (v : Contents). v.wrong) same) ∙ ap (λ n. n + 1) (f z refl)

wrong_more : (b : Bool) (now : Stamp) (o t : Option Contents) (x : Contents) (k : ℕ) → (b ≡ true → (z : Contents) → o ≡ Some z → z.wrong ≡ k) → ((y : Contents) → t ≡ Some y → y.wrong ≡ k) → cond b (option_map (bumped now) o) t ≡ Some x → x.wrong ≡ cond b (k + 1) k
wrong_more true now o t x k f g e = one_more now o x k (f refl) e
wrong_more false now o t x k f g e = g x e

removed : (b : Bool) (t : Option Contents) (x : Contents) (k : ℕ) → ((y : Contents) → t ≡ Some y → y.wrong ≡ k) → cond b None t ≡ Some x → x.wrong ≡ k
removed true t x k g e = cc
removed false t x k g e = g x e

count_step : (now : Stamp) (call : CallData) (reply : Reply) (t : ℕ → Option Contents) (label : ℕ) (x : Contents) (k : ℕ) → ((y : Contents) → t label ≡ Some y → y.wrong ≡ k) → leaves_after now call reply t label ≡ Some x
    → x.wrong ≡ cond (begins_at label call reply) 0 (cond (is_wrong_at label call reply) (k + 1) k)
unfolding leaves_after begins_at is_wrong_at
count_step now ResetTree Done t label x k f e = cc
count_step now (Insert l aux mac les hes reset schedule iv) (Inserted r) t label x k f e =
    begun (eqb label l) (Some (new_contents l les hes reset schedule iv)) (t label) x k (λ y q. let same : new_contents l les hes reset schedule iv ≡ y = cc q in sym (ap (λ (v : Contents). v.wrong) same)) f e
count_step now (Remove l aux mac) Done t label x k f e = removed (eqb label l) (t label) x k f e
count_step now (Try l aux leaf les) (Released r hes) t label x k f e = begun (eqb label l) (option_map cleared (t l)) (t label) x k (blank_cleared (t l)) f e
count_step now (Try l aux leaf les) (Wrong r) t label x k f e =
    wrong_more (eqb label l) now (t l) (t label) x k (λ q z s. f z (ap t (eqb-true label l q) ∙ s)) f e
count_step now (Reset l aux leaf reset) (Cleared r) t label x k f e = begun (eqb label l) (option_map cleared (t l)) (t label) x k (blank_cleared (t l)) f e
count_step now _ _ t label x k f e = f x e

pub count_is : (history : List Noted) (label : ℕ) (x : Contents) → leaves_of history label ≡ Some x → x.wrong ≡ wrongs_since label history
unfolding leaves_of wrongs_since
count_is [] label x e = cc
count_is (noted ∷ older) label x e = count_step noted.stamp noted.call noted.reply (leaves_of older) label x (wrongs_since label older) (λ y q. count_is older label y q) e

-- the ledger is that of the history
pub same_ledger : (events : List Event) (w : ChipState) (ledger : Ledger) (history : List Noted) → leaves_of history ≡ ledger.leaves
    → leaves_of (history_after w ledger events history) ≡ (ledger_in_the_end w ledger events).leaves
unfolding history_after ledger_in_the_end leaves_of noted_call
same_ledger [] w ledger history e = e
same_ledger (Boots moment ∷ events) w ledger history e = same_ledger events (booted w moment) (noted_boot ledger moment) history e
same_ledger (Calls call now ∷ events) w ledger history e =
    same_ledger events (step w call now).1 (noted_call ledger call now (step w call now).0)
    (record { stamp = record { boot = ledger.boot; at = now }; call = call; reply = (step w call now).0 } ∷ history)
    (ap (leaves_after (record { boot = ledger.boot; at = now }) call (step w call now).0) e)

pub count_of_run : (keys : ChipKeys) (events : List Event) (label : ℕ) (x : Contents) → (ledger_in_the_end (new_state keys) new_ledger events).leaves label ≡ Some x
    → x.wrong ≡ wrongs_since label (history_after (new_state keys) new_ledger events [])
unfolding leaves_of
count_of_run keys events label x e =
    count_is (history_after (new_state keys) new_ledger events []) label x (ap (λ f. f label) (same_ledger events (new_state keys) new_ledger [] refl) ∙ e)

-- The turns of a request, put together.
use Rattle.std.proofs.Common.{◌≡◌, ◌<◌, ◌+◌, inl, inr, ℕ, Bool, true, false, List, [], ◌∷◌, ◌++◌, Option, None, Some, refl, sym, ap, ◌∙◌, subst, append_assoc, append-nil, true≢false, arith}
use Rattle.std.specs.Prelude.{IsSomeAnd, MatchOption, MatchBool, is_some}
use Rattle.account_machine.specs.declared.answer.Answer.{Answer}
use Rattle.account_machine.specs.declared.answer.Answer.TheVariants as answers
use Rattle.account_machine.specs.declared.entry.Entry.{Entry}
use Rattle.account_machine.specs.declared.request.Request.{Request}
use Rattle.account_machine.specs.declared.request.Request.TheVariants.{Authenticate}
use Rattle.account_machine.specs.declared.request.Turn.TheVariants as turns
use Rattle.account_machine.specs.declared.session.Token.{Token}
use Rattle.client_output.specs.Turns.{AreClearings, Acts, Looks, OnlyLooks, MakesAll, Makes, label_looked, token_cleared, has_seen, has_cleared}
use Rattle.client_output.proofs.Telling.{seen_told, cleared_told, token_told}
use Rattle.request_turns.specs.Taken.{Takes, GrowsBy, Gives, most_clearings}

-- where clearings may follow, there is room for 8
pub eight : (request : Request) (answer : Answer) (token : Token)
    → token_cleared request answer ≡ Some token → most_clearings request ≡ 8
eight (Authenticate account token label secret) answer other is = refl
eight _ answer other is = absurd (true≢false (sym (ap is_some is)))

-- what an option has, where it has something
pub some_of : {A : Type 0} (P : A → Type 0) (o : Option A) → IsSomeAnd o P → (x : A) × (o ≡ Some x) × P x
some_of P None none = absurd none
some_of P (Some x) some = (x, refl, some)

-- and back
pub some_and : {A : Type 0} (P : A → Type 0) (o : Option A) (x : A) → o ≡ Some x → P x → IsSomeAnd o P
some_and P o x is some = subst (λ (o : Option _). IsSomeAnd o P) (sym is) some

module _ (caller given : ℕ) where
  -- ---- clearings

  -- the last clearing
  pub clear_last : (most : ℕ) (token : Token) (old new : List Entry) (told : Answer)
      → Takes caller given (turns.Clear token) old new told
      → (has_cleared told ≡ true → most ≡ 1)
      → 0 < most
      → GrowsBy (AreClearings caller given most token) old new
  clear_last most token old new told takes ended some = record {
    turns = takes.entry ∷ [];
    are = record {
      cleared = [];
      last = takes.entry;
      turns_are = refl;
      each = (takes.is, tt);
      went_on = tt;
      within = omega (arith, some);
      ended = λ cleared. sym (ended (cleared_told takes.entry.answer told takes.told_is ∙ cleared));
    };
    own = takes.own;
  }

  -- a clearing that cleared, before others
  pub clear_more : (most rest : ℕ) (token : Token) (old mid new : List Entry) (told : Answer)
      → most ≡ rest + 1
      → Takes caller given (turns.Clear token) old mid told
      → has_cleared told ≡ true
      → GrowsBy (AreClearings caller given rest token) mid new
      → GrowsBy (AreClearings caller given most token) old new
  clear_more most rest token old mid new told one takes did more =
      let within = more.are.within in
      record {
        turns = takes.entry ∷ more.turns;
        are = record {
          cleared = takes.entry ∷ more.are.cleared;
          last = more.are.last;
          turns_are = ap (λ (es : List Entry). takes.entry ∷ es) more.are.turns_are;
          each = (takes.is, more.are.each);
          went_on = (sym (cleared_told takes.entry.answer told takes.told_is) ∙ did, more.are.went_on);
          within = omega (arith, one, within);
          ended = λ cleared. let all = more.are.ended cleared in omega (arith, one, all);
        };
        own = more.own ∙ ap (λ (es : List Entry). es ++ more.turns) takes.own
            ∙ append_assoc old (takes.entry ∷ []) more.turns;
      }

  module _ (request : Request) where
    -- ---- the act

    -- an act without clearings
    pub acts_alone : (old new : List Entry) (told : Answer)
        → Takes caller given (turns.Act request) old new told
        → token_cleared request told ≡ None
        → Gives (Acts caller given request) old new told
    acts_alone old new told takes none = record {
      answer = takes.entry.answer;
      turns = takes.entry ∷ [];
      are = record {
        act = takes.entry;
        clearings = [];
        turns_are = refl;
        act_is = takes.is;
        answer_is = refl;
        clears = subst (λ (o : Option Token). MatchOption o (◌≡◌ {A = List Entry} [] [])
            (λ token. AreClearings caller given 8 token []))
            (sym none ∙ token_told request takes.entry.answer told takes.told_is) refl;
      };
      told_is = takes.told_is;
      own = takes.own;
    }

    -- an act with clearings
    pub acts_cleared : (most : ℕ) (token : Token) (old mid new : List Entry) (told : Answer)
        → most ≡ 8
        → Takes caller given (turns.Act request) old mid told
        → token_cleared request told ≡ Some token
        → GrowsBy (AreClearings caller given most token) mid new
        → Gives (Acts caller given request) old new told
    acts_cleared most token old mid new told is takes some more = record {
      answer = takes.entry.answer;
      turns = takes.entry ∷ more.turns;
      are = record {
        act = takes.entry;
        clearings = more.turns;
        turns_are = refl;
        act_is = takes.is;
        answer_is = refl;
        clears = subst
            (λ (o : Option Token). MatchOption o (more.turns ≡ []) (λ token. AreClearings caller given 8 token more.turns))
            (sym some ∙ token_told request takes.entry.answer told takes.told_is)
            (subst (λ (n : ℕ). AreClearings caller given n token more.turns) is more.are);
      };
      told_is = takes.told_is;
      own = more.own ∙ ap (λ (es : List Entry). es ++ more.turns) takes.own
          ∙ append_assoc old (takes.entry ∷ []) more.turns;
    }

    -- a request without a look
    pub makes_act : (old new : List Entry) (told : Answer)
        → label_looked request ≡ None
        → Gives (Acts caller given request) old new told
        → Gives (Makes caller given request) old new told
    makes_act old new told none acts = record {
      answer = acts.answer;
      turns = acts.turns;
      are = inl (subst (λ (o : Option (List ℕ)). MatchOption o (Acts caller given request acts.answer acts.turns)
          (λ label. Looks caller given label request acts.answer acts.turns)) (sym none) acts.are);
      told_is = acts.told_is;
      own = acts.own;
    }

    -- no turn, for want of memory
    pub makes_none : (old new : List Entry) → new ≡ old → Gives (Makes caller given request) old new answers.NoMemory
    makes_none old new same = record {
      answer = answers.NoMemory;
      turns = [];
      are = inr (refl, inl refl);
      told_is = inl refl;
      own = same ∙ sym (append-nil old);
    }

    -- ---- the look
    module _ (label : List ℕ) (label_is : label_looked request ≡ Some label) where
      -- all turns of a request with a look
      with-look : (answer : Answer) (es : List Entry) → Looks caller given label request answer es
          → MakesAll caller given request answer es
      with-look answer es looks = subst
          (λ (o : Option (List ℕ)). MatchOption o (Acts caller given request answer es)
          (λ label. Looks caller given label request answer es)) (sym label_is) looks

      -- a look that didn't see
      pub looks_alone : (old new : List Entry) (told : Answer)
          → Takes caller given (turns.Look label) old new told
          → has_seen told ≡ false
          → Gives (Makes caller given request) old new told
      looks_alone old new told takes unseen = record {
        answer = takes.entry.answer;
        turns = takes.entry ∷ [];
        are = inl (with-look takes.entry.answer (takes.entry ∷ []) (record {
          look = takes.entry;
          rest = [];
          turns_are = refl;
          look_is = takes.is;
          acts = subst (λ (b : Bool). MatchBool b (Acts caller given request takes.entry.answer [])
              (◌≡◌ {A = List Entry} [] [] × (takes.entry.answer ≡ takes.entry.answer)))
              (sym unseen ∙ seen_told takes.entry.answer told takes.told_is) (refl, refl);
        }));
        told_is = takes.told_is;
        own = takes.own;
      }

      -- a look that saw, and the act
      pub looks_act : (old mid new : List Entry) (saw told : Answer)
          → Takes caller given (turns.Look label) old mid saw
          → has_seen saw ≡ true
          → Gives (Acts caller given request) mid new told
          → Gives (Makes caller given request) old new told
      looks_act old mid new saw told takes seen acts = record {
        answer = acts.answer;
        turns = takes.entry ∷ acts.turns;
        are = inl (with-look acts.answer (takes.entry ∷ acts.turns) (record {
          look = takes.entry;
          rest = acts.turns;
          turns_are = refl;
          look_is = takes.is;
          acts = subst (λ (b : Bool). MatchBool b (Acts caller given request acts.answer acts.turns)
              ((acts.turns ≡ []) × (takes.entry.answer ≡ acts.answer)))
              (sym seen ∙ seen_told takes.entry.answer saw takes.told_is) acts.are;
        }));
        told_is = acts.told_is;
        own = acts.own ∙ ap (λ (es : List Entry). es ++ acts.turns) takes.own
            ∙ append_assoc old (takes.entry ∷ []) acts.turns;
      }

      -- a look that saw, without its act for want of memory
      pub looks_only : (old mid new : List Entry) (saw : Answer)
          → Takes caller given (turns.Look label) old mid saw
          → has_seen saw ≡ true
          → new ≡ mid
          → Gives (Makes caller given request) old new answers.NoMemory
      looks_only old mid new saw takes seen same = record {
        answer = answers.NoMemory;
        turns = takes.entry ∷ [];
        are = inr (
          refl,
          inr (subst
              (λ (o : Option (List ℕ)). MatchOption o ⊥ (λ label. OnlyLooks caller given label (takes.entry ∷ [])))
              (sym label_is) (record {
                look = takes.entry;
                turns_are = refl;
                look_is = takes.is;
                saw = sym (seen_told takes.entry.answer saw takes.told_is) ∙ seen;
              })),
        );
        told_is = inl refl;
        own = same ∙ takes.own;
      }

-- The replies to the answers whose texts may need memory.
use Rattle.std.proofs.Common.{◌≡◌, ◌⊎◌, ℕ, true, List, [], ◌∷◌, ◌++◌, codes, inl, inr, ap, sym, ◌∙◌, append_assoc, refl}
use Rattle.account_machine.specs.declared.session.Token.{Token}
use Rattle.account_machine.specs.declared.answer.FactorLine.{FactorLine}
use Rattle.account_machine.specs.declared.answer.Answer.{Answer}
use Rattle.account_machine.specs.declared.answer.Answer.TheVariants as answers
use Rattle.client_lang.specs.Replies.{answer_text, word_of, word_text, is_plain_name, TakesMemory, Replies}
use Rattle.client_lang.proofs.Escapes.{quoted-plain}

-- such an answer's text was added, or that of no_memory
pub replied : (answer : Answer) (old new front list back : List ℕ) → TakesMemory answer → (front ++ list ++ back) ≡ answer_text answer
    → (new ≡ old ++ (front ++ list ++ back)) ⊎ (new ≡ old ++ answer_text answers.NoMemory) → Replies answer old new
replied answer old new front list back may is (inl written) = inl (written ∙ ap (λ text. old ++ text) is)
replied answer old new front list back may is (inr none) = inr (may, none)

-- a plain name stands for itself
pub plain_damaged : (old name : List ℕ) → is_plain_name name ≡ true
    → old ++ codes "{\"answer\":\"damaged\",\"record\":\"" ++ name ++ codes "\"}" ≡ old ++ answer_text (answers.Damaged name)
plain_damaged old name is =
    append_assoc (old ++ codes "{\"answer\":\"damaged\",\"record\":\"") name (codes "\"}")
    ∙ append_assoc old (codes "{\"answer\":\"damaged\",\"record\":\"") (name ++ codes "\"}")
    ∙ ap (λ text. old ++ text)
    (ap (λ rest. codes "{\"answer\":\"damaged\",\"record\":\"" ++ rest) (sym (append_assoc name (34 ∷ []) (125 ∷ [])))
    ∙ ap (λ string. codes "{\"answer\":\"damaged\",\"record\":" ++ string ++ codes "}") (sym (quoted-plain name is)))

-- any other answer's text is its word
module _ (answer : Answer)
    (not_ends : (ends : ℕ) → answer ≡ answers.OkEnds ends → ⊥)
    (not_password : (ends : ℕ) → answer ≡ answers.OkPassword ends → ⊥)
    (not_session : (ends : ℕ) (token : Token) → answer ≡ answers.OkSession ends token → ⊥)
    (not_factors : (lines : List FactorLine) → answer ≡ answers.OkFactors lines → ⊥)
    (not_files : (names : List (List ℕ)) → answer ≡ answers.OkFiles names → ⊥)
    (not_bytes : (bytes : List ℕ) → answer ≡ answers.OkBytes bytes → ⊥)
    (not_delayed : (seconds : ℕ) → answer ≡ answers.Delayed seconds → ⊥)
    (not_lost : (host chip : List ℕ) → answer ≡ answers.TreeLost host chip → ⊥)
    (not_damaged : (name : List ℕ) → answer ≡ answers.Damaged name → ⊥) where
  pub by_word : answer_text answer ≡ word_text (word_of answer)
  by_word =
      elim answer as (λ a. answer ≡ a → answer_text a ≡ word_text (word_of a)) [
        | answers.Ok ↦ λ e. refl
        | answers.PinCleared ↦ λ e. refl
        | answers.PinsClear ↦ λ e. refl
        | answers.Exists ↦ λ e. refl
        | answers.NoHome ↦ λ e. refl
        | answers.SessionsSpent ↦ λ e. refl
        | answers.UnknownSession ↦ λ e. refl
        | answers.Expired ↦ λ e. refl
        | answers.WrongIntent ↦ λ e. refl
        | answers.NotAuthorised ↦ λ e. refl
        | answers.UnknownFactor ↦ λ e. refl
        | answers.FactorExists ↦ λ e. refl
        | answers.PasswordFirst ↦ λ e. refl
        | answers.LastPassword ↦ λ e. refl
        | answers.TooManyFactors ↦ λ e. refl
        | answers.BadSecret ↦ λ e. refl
        | answers.EditionsSpent ↦ λ e. refl
        | answers.AlreadyMounted ↦ λ e. refl
        | answers.NotMounted ↦ λ e. refl
        | answers.UnknownFile ↦ λ e. refl
        | answers.TooManyFiles ↦ λ e. refl
        | answers.TooLarge ↦ λ e. refl
        | answers.UnknownAccount ↦ λ e. refl
        | answers.Wrong ↦ λ e. refl
        | answers.Locked ↦ λ e. refl
        | answers.StorageFault ↦ λ e. refl
        | answers.NoMemory ↦ λ e. refl
        | answers.Seen edition ↦ λ e. refl
        | answers.OkEnds ends ↦ λ e. absurd (not_ends ends e)
        | answers.OkPassword ends ↦ λ e. absurd (not_password ends e)
        | answers.OkSession start token ↦ λ e. absurd (not_session start token e)
        | answers.OkFactors lines ↦ λ e. absurd (not_factors lines e)
        | answers.OkFiles names ↦ λ e. absurd (not_files names e)
        | answers.OkBytes bytes ↦ λ e. absurd (not_bytes bytes e)
        | answers.Delayed seconds ↦ λ e. absurd (not_delayed seconds e)
        | answers.TreeLost host chip ↦ λ e. absurd (not_lost host chip e)
        | answers.Damaged name ↦ λ e. absurd (not_damaged name e)
      ] refl

-- What a reply tells.
use Rattle.std.proofs.Common.{◌≡◌, inl, inr, ℕ, false, List, [], refl, sym, ap, ◌∙◌, true≢false}
use Rattle.account_machine.specs.declared.answer.Answer.{Answer}
use Rattle.account_machine.specs.declared.answer.Answer.TheVariants as answers
use Rattle.account_machine.specs.declared.request.Request.{Request}
use Rattle.account_machine.specs.declared.request.Request.TheVariants as requests
use Rattle.client_lang.specs.Replies.{Replies, TakesMemory}
use Rattle.client_output.specs.Output.{HasList, IsToldOf, NamesPlainly, Tells}
use Rattle.client_output.specs.Turns.{has_seen, has_cleared, token_cleared}

-- the answers whose text may need memory are lists, where damage is of what has a name like a record's
list-only : (answer : Answer) → NamesPlainly answer → TakesMemory answer → HasList answer
list-only (answers.OkFactors lines) plain takes = tt
list-only (answers.OkFiles names) plain takes = tt
list-only (answers.OkBytes bytes) plain takes = tt
list-only (answers.Damaged name) plain takes = absurd (true≢false (sym plain ∙ takes))
list-only _ plain takes = absurd takes

-- ---- what is told of an answer is as good as the answer

seen-list : (answer : Answer) → HasList answer → has_seen answer ≡ false
seen-list (answers.Seen edition) list = absurd list
seen-list _ list = refl

cleared-list : (answer : Answer) → HasList answer → has_cleared answer ≡ false
cleared-list answers.PinCleared list = absurd list
cleared-list _ list = refl

-- whether a look saw
pub seen_told : (answer told : Answer) → IsToldOf answer told → has_seen told ≡ has_seen answer
seen_told answer told (inl same) = ap has_seen same
seen_told answer told (inr list) = ap has_seen list.1 ∙ sym (seen-list answer list.0)

-- whether a clearing cleared
pub cleared_told : (answer told : Answer) → IsToldOf answer told → has_cleared told ≡ has_cleared answer
cleared_told answer told (inl same) = ap has_cleared same
cleared_told answer told (inr list) = ap has_cleared list.1 ∙ sym (cleared-list answer list.0)

token-list : (request : Request) (answer : Answer) → HasList answer
    → token_cleared request answer ≡ token_cleared request answers.NoMemory
token-list (requests.Authenticate account token label secret) (answers.OkPassword ends) list = absurd list
token-list _ _ list = refl

-- which token has clearings
pub token_told : (request : Request) (answer told : Answer) → IsToldOf answer told
    → token_cleared request told ≡ token_cleared request answer
token_told request answer told (inl same) = ap (token_cleared request) same
token_told request answer told (inr list) =
    ap (token_cleared request) list.1 ∙ sym (token-list request answer list.0)

-- what is written for an answer tells it
pub told : (answer : Answer) (reply : List ℕ) → NamesPlainly answer → Replies answer [] reply → Tells answer reply
told answer reply plain (inl text) = inl text
told answer reply plain (inr none) = inr (list-only answer plain none.0, none.1)

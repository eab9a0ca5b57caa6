-- Refusals as answers, and back.
use Rattle.std.proofs.Common.{◌≡◌, Some, refl, ap, ◌∙◌}
use Rattle.std.specs.Prelude.{unwrap_or}
use Rattle.account_machine.specs.declared.answer.Answer.{Answer}
use Rattle.account_machine.specs.declared.answer.Answer.TheVariants as answers
use Rattle.account_machine.specs.declared.answer.Refused.{Refused}
use Rattle.account_machine.specs.declared.answer.Refused.TheVariants.{Exists, NoHome, SessionsSpent, UnknownSession, Expired, WrongIntent, NotAuthorised, UnknownFactor, FactorExists, PasswordFirst, LastPassword, TooManyFactors, BadSecret, EditionsSpent, AlreadyMounted, NotMounted, UnknownFile, TooManyFiles, TooLarge}
use Rattle.account_machine.specs.Answers.{answer_of, refused_in}

same : (r q : Refused) → Some r ≡ Some q → answer_of r ≡ answer_of q
same r q is = ap (λ o. answer_of (unwrap_or o r)) is

-- an answer that says a refusal is its answer
pub answer-refused : (answer : Answer) (refused : Refused) → refused_in answer ≡ Some refused → answer ≡ answer_of refused
answer-refused answers.Ok refused says = cc
answer-refused (answers.OkEnds ends) refused says = cc
answer-refused (answers.OkPassword ends) refused says = cc
answer-refused (answers.OkSession ends token) refused says = cc
answer-refused (answers.OkFactors lines) refused says = cc
answer-refused (answers.OkFiles names) refused says = cc
answer-refused (answers.OkBytes bytes) refused says = cc
answer-refused answers.PinCleared refused says = cc
answer-refused answers.PinsClear refused says = cc
answer-refused (answers.Seen edition) refused says = cc
answer-refused answers.Exists refused says = same Exists refused says
answer-refused answers.NoHome refused says = same NoHome refused says
answer-refused answers.SessionsSpent refused says = same SessionsSpent refused says
answer-refused answers.UnknownSession refused says = same UnknownSession refused says
answer-refused answers.Expired refused says = same Expired refused says
answer-refused answers.WrongIntent refused says = same WrongIntent refused says
answer-refused answers.NotAuthorised refused says = same NotAuthorised refused says
answer-refused answers.UnknownFactor refused says = same UnknownFactor refused says
answer-refused answers.FactorExists refused says = same FactorExists refused says
answer-refused answers.PasswordFirst refused says = same PasswordFirst refused says
answer-refused answers.LastPassword refused says = same LastPassword refused says
answer-refused answers.TooManyFactors refused says = same TooManyFactors refused says
answer-refused answers.BadSecret refused says = same BadSecret refused says
answer-refused answers.EditionsSpent refused says = same EditionsSpent refused says
answer-refused answers.AlreadyMounted refused says = same AlreadyMounted refused says
answer-refused answers.NotMounted refused says = same NotMounted refused says
answer-refused answers.UnknownFile refused says = same UnknownFile refused says
answer-refused answers.TooManyFiles refused says = same TooManyFiles refused says
answer-refused answers.TooLarge refused says = same TooLarge refused says
answer-refused answers.UnknownAccount refused says = cc
answer-refused answers.Wrong refused says = cc
answer-refused answers.Locked refused says = cc
answer-refused (answers.Delayed seconds) refused says = cc
answer-refused (answers.TreeLost host chip) refused says = cc
answer-refused (answers.Damaged name) refused says = cc
answer-refused answers.StorageFault refused says = cc
answer-refused answers.NoMemory refused says = cc

refused_in-answer_of : (refused : Refused) → refused_in (answer_of refused) ≡ Some refused
refused_in-answer_of Exists = refl
refused_in-answer_of NoHome = refl
refused_in-answer_of SessionsSpent = refl
refused_in-answer_of UnknownSession = refl
refused_in-answer_of Expired = refl
refused_in-answer_of WrongIntent = refl
refused_in-answer_of NotAuthorised = refl
refused_in-answer_of UnknownFactor = refl
refused_in-answer_of FactorExists = refl
refused_in-answer_of PasswordFirst = refl
refused_in-answer_of LastPassword = refl
refused_in-answer_of TooManyFactors = refl
refused_in-answer_of BadSecret = refl
refused_in-answer_of EditionsSpent = refl
refused_in-answer_of AlreadyMounted = refl
refused_in-answer_of NotMounted = refl
refused_in-answer_of UnknownFile = refl
refused_in-answer_of TooManyFiles = refl
refused_in-answer_of TooLarge = refl

-- and the answer of a refusal says it
pub refused-answer : (answer : Answer) (refused : Refused) → answer ≡ answer_of refused → refused_in answer ≡ Some refused
refused-answer answer refused is = ap refused_in is ∙ refused_in-answer_of refused

-- The plain refusals as answers, and back.
use Rattle.std.specs.Prelude.{Option, None, Some}
use Rattle.account_machine.specs.declared.answer.Answer.{Answer}
use Rattle.account_machine.specs.declared.answer.Answer.TheVariants as answers
use Rattle.account_machine.specs.declared.answer.Refused.{Refused}
use Rattle.account_machine.specs.declared.answer.Refused.TheVariants.{Exists, NoHome, SessionsSpent, UnknownSession, Expired, WrongIntent, NotAuthorised, UnknownFactor, FactorExists, PasswordFirst, LastPassword, TooManyFactors, BadSecret, EditionsSpent, AlreadyMounted, NotMounted, UnknownFile, TooManyFiles, TooLarge}

-- the answer that says a refusal
abbrev pub answer_of : Refused → Answer
answer_of Exists = answers.Exists
answer_of NoHome = answers.NoHome
answer_of SessionsSpent = answers.SessionsSpent
answer_of UnknownSession = answers.UnknownSession
answer_of Expired = answers.Expired
answer_of WrongIntent = answers.WrongIntent
answer_of NotAuthorised = answers.NotAuthorised
answer_of UnknownFactor = answers.UnknownFactor
answer_of FactorExists = answers.FactorExists
answer_of PasswordFirst = answers.PasswordFirst
answer_of LastPassword = answers.LastPassword
answer_of TooManyFactors = answers.TooManyFactors
answer_of BadSecret = answers.BadSecret
answer_of EditionsSpent = answers.EditionsSpent
answer_of AlreadyMounted = answers.AlreadyMounted
answer_of NotMounted = answers.NotMounted
answer_of UnknownFile = answers.UnknownFile
answer_of TooManyFiles = answers.TooManyFiles
answer_of TooLarge = answers.TooLarge

-- the refusal that an answer says, where it says one
abbrev pub refused_in : Answer → Option Refused
refused_in answers.Ok = None
refused_in (answers.OkEnds ends) = None
refused_in (answers.OkPassword ends) = None
refused_in (answers.OkSession ends token) = None
refused_in (answers.OkFactors lines) = None
refused_in (answers.OkFiles names) = None
refused_in (answers.OkBytes bytes) = None
refused_in answers.PinCleared = None
refused_in answers.PinsClear = None
refused_in (answers.Seen edition) = None
refused_in answers.Exists = Some Exists
refused_in answers.NoHome = Some NoHome
refused_in answers.SessionsSpent = Some SessionsSpent
refused_in answers.UnknownSession = Some UnknownSession
refused_in answers.Expired = Some Expired
refused_in answers.WrongIntent = Some WrongIntent
refused_in answers.NotAuthorised = Some NotAuthorised
refused_in answers.UnknownFactor = Some UnknownFactor
refused_in answers.FactorExists = Some FactorExists
refused_in answers.PasswordFirst = Some PasswordFirst
refused_in answers.LastPassword = Some LastPassword
refused_in answers.TooManyFactors = Some TooManyFactors
refused_in answers.BadSecret = Some BadSecret
refused_in answers.EditionsSpent = Some EditionsSpent
refused_in answers.AlreadyMounted = Some AlreadyMounted
refused_in answers.NotMounted = Some NotMounted
refused_in answers.UnknownFile = Some UnknownFile
refused_in answers.TooManyFiles = Some TooManyFiles
refused_in answers.TooLarge = Some TooLarge
refused_in answers.UnknownAccount = None
refused_in answers.Wrong = None
refused_in answers.Locked = None
refused_in (answers.Delayed seconds) = None
refused_in (answers.TreeLost host chip) = None
refused_in (answers.Damaged name) = None
refused_in answers.StorageFault = None
refused_in answers.NoMemory = None

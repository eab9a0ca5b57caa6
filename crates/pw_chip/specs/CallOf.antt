-- The code's calls as data: what a call's reference points to.
use Rattle.pw_chip.specs.declared.call.Call.{Call}
use Rattle.pw_chip.specs.declared.call.Call.TheVariants as call
use Rattle.pw_chip.specs.Calls.{CallData, ResetTree, Insert, Remove, Try, Reset, GetLog, Replay}

abbrev pub data_of : Call → CallData
data_of call.ResetTree = ResetTree
data_of (call.Insert label aux mac les hes reset schedule iv) = Insert label aux mac les hes reset schedule iv
data_of (call.Remove label aux mac) = Remove label aux mac
data_of (call.Try label aux leaf les) = Try label aux leaf.now les
data_of (call.Reset label aux leaf reset) = Reset label aux leaf.now reset
data_of (call.GetLog host) = GetLog host
data_of (call.Replay label aux leaf) = Replay label aux leaf.now

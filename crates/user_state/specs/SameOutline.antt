-- That a settled state has the outline of its user.
use Rattle.std.specs.Prelude.{◌≡◌, None, IsTrue}
use Rattle.account_machine.specs.User.{outline_of}
use Rattle.account_machine.specs.declared.user.User.{User}
use Rattle.record_names.specs.Names.{is_account_name}
use Rattle.share_api.specs.Contents.{Contents}
use Rattle.stored_home.specs.Holds.{Keys, HoldsUnder}
use Rattle.user_state.specs.Fits.{Fits, is_lost}
use Rattle.user_state.specs.Outlines.{outline_in}
use Rattle.user_state.specs.declared.state.UserState.{UserState}

abbrev pub OutlineLaw : Type 0
OutlineLaw = (state : UserState) (contents : Contents) (user : User) (keys : Keys)
    → IsTrue (is_account_name state.account)
    → Fits state contents user keys
    → state.doubt ≡ None
    → HoldsUnder (is_lost state) contents state.account user.durable keys
    → outline_in state ≡ outline_of user

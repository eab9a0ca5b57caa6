-- A client's real ends as they are handed out.
use Rattle.std.specs.Prelude.{◌≡◌, Bool}
use Rattle.run_desk.specs.declared.desk.Client.{Client}
use Rattle.cryptohome_cli.specs.declared.input.Input.{Input}
use Rattle.cryptohome_cli.specs.declared.output.Output.{Output}
use Rattle.cryptohome_cli.specs.declared.clock.SystemClock.{SystemClock}
use Rattle.cryptohome_cli.specs.Streams.{reads_standard, writes_standard}

-- nothing was taken of the input, and neither end has failed
pub record IsFresh (client : Client Input Output SystemClock) : Type 0 where
  pub taken : client.source.taken ≡ 0
  pub source : client.source.faults ≡ 0
  pub sink : client.sink.faults ≡ 0

-- whether both ends are the system's standard ones; else both are files
pub record IsStandard (standard : Bool) (client : Client Input Output SystemClock) : Type 0 where
  pub source : reads_standard client.source.stream ≡ standard
  pub sink : writes_standard client.sink.stream ≡ standard

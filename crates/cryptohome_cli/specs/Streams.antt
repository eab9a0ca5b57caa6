-- Which of the system's streams a client's ends are.
use Rattle.std.specs.Prelude.{Bool, true, false}
use Rattle.cryptohome_cli.specs.declared.input.InputStream.{InputStream}
use Rattle.cryptohome_cli.specs.declared.input.InputStream.TheVariants as inputs
use Rattle.cryptohome_cli.specs.declared.output.OutputStream.{OutputStream}
use Rattle.cryptohome_cli.specs.declared.output.OutputStream.TheVariants as outputs

-- it is standard input
abbrev pub reads_standard : InputStream → Bool
reads_standard (inputs.Standard _) = true
reads_standard (inputs.Opened _) = false

-- it is standard output
abbrev pub writes_standard : OutputStream → Bool
writes_standard (outputs.Standard _) = true
writes_standard (outputs.Opened _) = false

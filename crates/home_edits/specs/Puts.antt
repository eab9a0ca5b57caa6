-- Records that are to be put.
use Rattle.std.specs.Prelude.{◌≡◌, ◌≤◌, Some, length}
use Rattle.record_names.specs.Names.{stash_name, factor_name}
use Rattle.share_api.specs.Contents.{Bytes}
use Rattle.stash_format.specs.declared.contents.Contents.{Contents as Stash}
use Rattle.stash_format.specs.Record.{stash_at}
use Rattle.factor_files.specs.declared.factor.FactorRecord.{FactorRecord}
use Rattle.factor_files.specs.Record.{factor_at}
use Rattle.home_edits.specs.declared.record_put.RecordPut.{RecordPut}

-- a share takes records of at most 49,181 bytes
abbrev pub IsStashPut : Bytes → Stash → RecordPut → Type 0
IsStashPut account stash put =
    (put.name ≡ stash_name account) × (stash_at put.bytes ≡ Some stash) × (length put.bytes ≤ 49181)

abbrev pub IsRowPut : Bytes → FactorRecord → RecordPut → Type 0
IsRowPut account row put =
    (put.name ≡ factor_name account row.label row.edition) × (factor_at put.bytes ≡ Some row)
    × (length put.bytes ≤ 49181)

-- What a share in memory holds, as an account's contents.
use Rattle.std.specs.Ordering.{nat_cmp}
use Rattle.std.specs.Cmp.Lexicographic.{slice_cmp}
use Rattle.std.specs.FinMap.{from_entries}
use Rattle.share_api.specs.Contents.{Contents, Records, Leaves}
use Rattle.mem_share.specs.declared.contents.Held.{Held}

abbrev pub records_of : Held → Records
records_of held = from_entries {R = slice_cmp nat_cmp} held.records.entries

abbrev pub leaves_of : Held → Leaves
leaves_of held = from_entries {R = nat_cmp} held.leaves.entries

abbrev pub contents_of : Held → Contents
contents_of held = record { records = records_of held; leaves = leaves_of held; doubt = held.doubt }

-- What is seen says which kind of item it is.
use mathlib.Core.Path.{refl}
use Rattle.wire_fields.specs.Seen.{map_seen}
use Rattle.wire_fields.proofs.ByKeyHead.{map-reads}
use Rattle.wire_fields.proofs.readers.is_map.Goals as goal

pub returns : goal.returns
unfolding map_seen
returns c =
    record {
      map_reads = map-reads _;
      value = refl;
    }

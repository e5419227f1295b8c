-- The direction of flow, by the load convention: "positive flows in, negative flows out". Assumes nothing: these are definitions.
use Rattle.std.specs.Prelude.{ℕ, cond, List, [], ◌∷◌, get_or, take, drop, eqb, pos, negsuc}
use Rattle.std.proofs.Math.Option.{some, none}
use Rattle.measurement_table.specs.Cells.{Cell}
use Rattle.measurement_table.specs.declared.attributes.Row.{Row}
use Rattle.measurement.specs.declared.flow.Flow.{Flow}

-- nothing has no flow, and zero flows in neither direction
unfoldable pub flow_of : Cell → Flow
flow_of none = Flow.Absent
flow_of (some (pos n)) = cond (eqb n 0) Flow.Neither Flow.In
flow_of (some (negsuc n)) = Flow.Out

-- its number in C: absent, none, in, out
unfoldable pub flow_number : Flow → ℕ
flow_number Flow.Absent = 0
flow_number Flow.Neither = 1
flow_number Flow.In = 2
flow_number Flow.Out = 3

-- the cell of attribute n, and of its phase p; nothing where there is none
unfoldable pub cell_for : List Row → List Cell → ℕ → ℕ → Cell
cell_for [] cs n p = none
cell_for (r ∷ rs) cs n p = cond (eqb r.0 n) (get_or (take r.1 cs) p none) (cell_for rs (drop r.1 cs) n p)

-- "the direction of flow of 1, 40 and each phase of 10"
abbrev pub ac_active_power : ℕ
ac_active_power = 1

abbrev pub ac_active_power_per_phase : ℕ
ac_active_power_per_phase = 10

abbrev pub dc_power : ℕ
dc_power = 40

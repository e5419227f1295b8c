-- L13 on the bench: two frame records of different zones and one second change places in a script.
-- The proof of OtherOrder is other_order, in proofs/. Assumes nothing: these are statements.
use Rattle.std.specs.Prelude.{ℕ, ◌+◌, ◌≢◌, ◌≡◌, List, [], ◌∷◌, ◌++◌, length, Some}
use Rattle.text.specs.Text.{decimal}
use Rattle.device_store.specs.Sizes.{words}
use Rattle.bench_records.specs.Kinds.{frame}
use Rattle.bench_records.specs.Records.{record_at}
use Rattle.bench_records.specs.declared.fields.Record.{Record}
use Rattle.bench_script.specs.Bench.{Played, behind, script}

-- these bytes are one frame record, with nothing behind it
pub record IsFrame (bytes : List ℕ) (r : Record) : Type 0 where
  pub read : record_at bytes 0 ≡ Some r
  pub whole : r.body + r.length ≡ length bytes
  pub kind : r.kind ≡ frame

-- the line of a number
abbrev pub line : ℕ → List (List ℕ)
line n = decimal n ∷ (10 ∷ []) ∷ []

-- two scripts print two lines in either order, and then the same; and they leave the same device
pub record LinesSwapped (x y : Played) : Type 0 where
  pub one : ℕ
  pub other : ℕ
  pub rest : Played
  pub first : x ≡ behind (line one) (behind (line other) rest)
  pub second : y ≡ behind (line other) (behind (line one) rest)

abbrev pub OtherOrder : Type 0
OtherOrder =
    (ws a b s : List ℕ) (q r : Record) → length ws ≡ words → IsFrame a q → IsFrame b r → q.zone ≢ r.zone → q.time ≡ r.time
    → LinesSwapped (script ws (a ++ (b ++ s))) (script ws (b ++ (a ++ s)))

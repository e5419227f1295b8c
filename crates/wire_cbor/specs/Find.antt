-- The value under a key of a map, and the walk that finds it. Assumes nothing: these are definitions.
use Rattle.std.specs.Prelude.{ℕ, zero, suc, Bool, true, false, cond, List, ltb, eqb}
use Rattle.std.specs.Prelude.{Some, None}
use Rattle.std.proofs.Math.Option.{Option, some, none}
use Rattle.wire_cbor.specs.Item.{Item, Pairs, EndRead, item_at, end_of}
use Rattle.wire_heads.specs.Key.{KeyRead, key_at}
use Rattle.wire_cbor.specs.declared.pairs.Step.{Step}
use Rattle.wire_cbor.specs.declared.pairs.Stop.{Stop}

-- the value under a key
unfoldable pub value_of : Pairs → ℕ → Option Item
value_of Pairs.empty k = none
value_of (Pairs.pair j i ps) k = cond (eqb j k) (some i) (value_of ps k)

-- a smaller key is passed, an equal one found; at a larger one and at a pair that cannot be read the walk halts
abbrev pub passed : EndRead → Step
passed (Some e) = Step.Past e
passed None = Step.Halt

abbrev pub step_of : ℕ → (ℕ → EndRead) → KeyRead → Step
step_of key ends (Some k) = cond (eqb k.key key) (Step.There k.next) (cond (ltb key k.key) Step.Halt (passed (ends k.next)))
step_of key ends None = Step.Halt

-- a look at the pair at p, whose value has at most d levels
unfoldable pub step_at : List ℕ → ℕ → ℕ → ℕ → Step
step_at s d key p = step_of key (λ q. end_of (item_at s d q)) (key_at s 0 p)

-- there: the value's position and the pairs behind it; not there: the position of the first pair not passed, and the pairs from it on
abbrev pub stopped : Bool → ℕ → ℕ → Stop
stopped b p n = record { there = b; at = p; left = n }

abbrev pub onward : Step → ℕ → ℕ → (ℕ → Stop) → Stop
onward (Step.There q) p n f = stopped true q n
onward (Step.Past e) p n f = f e
onward Step.Halt p n f = stopped false p (suc n)

-- the walk from p with n pairs left
unfoldable pub seek_at : List ℕ → ℕ → ℕ → ℕ → ℕ → Stop
seek_at s d key zero p = stopped false p 0
seek_at s d key (suc n) p = onward (step_at s d key p) p n (seek_at s d key n)

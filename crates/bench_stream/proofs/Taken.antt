-- Bytes taken from a reader, read after read. Assumes nothing.
use Rattle.std.proofs.Common.{◌≡◌, ℕ, ◌-◌, ◌≤◌, List, [], ◌++◌, length, arith, length-append}
use Rattle.std.proofs.KnownBytes.{Consumes-nil, Consumes-trans, Consumes-kept}
use Rattle.std.specs.Io.KnownBytes.{Consumes, Keeps}
use Rattle.std.specs.declared.option.Option.{Option}
use Rattle.bench_stream.specs.Buffer.{Takes}

-- none yet
pub takes_none : (a : Option (List ℕ)) (n : ℕ) → Takes a a n n
takes_none a n = ([], Consumes-nil a, omega arith)

-- one read more
pub takes_more : (a b c : Option (List ℕ)) (left most n : ℕ) → Takes a b left most → (bs : List ℕ) × Consumes b c bs × (length bs ≡ n) → n ≤ left
    → Takes a c (left - n) most
takes_more a b c left most n t r h =
    (t.0 ++ r.0, Consumes-trans a b c t.0 r.0 t.1 r.1, omega (arith, length-append t.0 r.0, t.2, r.2, h))

-- a turn more
pub takes_then : (a b c : Option (List ℕ)) (left mid most : ℕ) → Takes a b mid most → Takes b c left mid → Takes a c left most
takes_then a b c left mid most t r =
    (t.0 ++ r.0, Consumes-trans a b c t.0 r.0 t.1 r.1, omega (arith, length-append t.0 r.0, t.2, r.2))

-- fewer may still be read
pub takes_fewer : (a b : Option (List ℕ)) (less left most : ℕ) → less ≤ left → Takes a b left most → Takes a b less most
takes_fewer a b less left most h t = (t.0, t.1, omega (arith, h, t.2))

-- a read that failed took none
pub takes_kept : (a b c : Option (List ℕ)) (left most : ℕ) → Takes a b left most → Keeps b c → Takes a c left most
takes_kept a b c left most t k = (t.0, Consumes-kept a b c t.0 t.1 k, t.2)

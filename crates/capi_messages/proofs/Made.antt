-- A flat request whose yeses and values are known by other names.
use mathlib.Core.Bool.{Bool}
use mathlib.Core.Path.{◌≡◌}
use lib.IntN.{ℤ}
use Rattle.capi_messages.specs.declared.flat_requests.FlatRequest.{FlatRequest}

-- the request q with these yeses and values
abbrev pub valued : FlatRequest → Bool → Bool → ℤ → ℤ → ℤ → ℤ → ℤ → FlatRequest
valued q o l f g x y z =
    record {
      id = q.id;
      endpoint = q.endpoint;
      feature = q.feature;
      command = q.command;
      consumption = record { kind = q.consumption.kind; value = f };
      production = record { kind = q.production.kind; value = g };
      duration = q.duration;
      cause = q.cause;
      directed = o;
      direction = q.direction;
      a = record { kind = q.a.kind; value = x };
      b = record { kind = q.b.kind; value = y };
      c = record { kind = q.c.kind; value = z };
      omitted = l;
    }

pub made : (q : FlatRequest) {o l : Bool} {f g x y z : ℤ}
    → o ≡ q.directed → l ≡ q.omitted → f ≡ q.consumption.value → g ≡ q.production.value → x ≡ q.a.value → y ≡ q.b.value → z ≡ q.c.value
    → valued q o l f g x y z ≡ q
made q p l a b c d e = rw (p, l, a, b, c, d, e)

-- Both tests are those of `key_head_at`.
use borrow.Author.Tests.{lt-ltb, le-ltb}
use Rattle.wire_cbor.specs.Scan.{key_head_in, key_head_at}
use Rattle.wire_cbor.proofs.heads.key_head_of.Goals as goal

pub returns-then-key-lt-KEYS : goal.returns-then-key-lt-KEYS
unfolding key_head_in key_head_at
returns-then-key-lt-KEYS c = rw (lt-ltb _ _ c.if-level-lt-LEVELS.true, lt-ltb _ _ c.if-key-lt-KEYS.true)

pub returns-else-key-lt-KEYS : goal.returns-else-key-lt-KEYS
unfolding key_head_in key_head_at
returns-else-key-lt-KEYS c = simp (lt-ltb _ _ c.if-level-lt-LEVELS.true, le-ltb _ _ c.if-key-lt-KEYS.false)

pub returns-else-level-lt-LEVELS : goal.returns-else-level-lt-LEVELS
unfolding key_head_in key_head_at
returns-else-level-lt-LEVELS c = simp (le-ltb _ _ c.if-level-lt-LEVELS.false)

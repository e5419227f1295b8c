-- The numbers of a line: the words behind the command's name, each of a kind. Assumes nothing: these are definitions.
use Rattle.std.specs.Prelude.{ℕ, ◌+◌, ◌-◌, Bool, true, false, cond, not, ◌&&◌, List, [], ◌∷◌, ltb, leb, length, take, drop, set, Option, Some, None, option_map}
use Rattle.std.specs.Option.{is_some}
use Rattle.device_store.specs.Sizes.{most, value_end}
use Rattle.console_words.specs.Hex.{is_none}
use Rattle.console_words.specs.Numbers.{number_in}
use Rattle.console_words.specs.Spans.{span_of}
use Rattle.console_words.specs.declared.numbers.Number.{Number}
use Rattle.console_line.specs.declared.fields.Kind.{Kind}
use Rattle.console_line.specs.declared.commands.Command.{Command}

-- the kinds: any number, a flag, a maximum, a count of what is lent
abbrev pub ANY : Kind
ANY = Kind.Any

abbrev pub FLAG : Kind
FLAG = Kind.Flag

abbrev pub MAXIMUM : Kind
MAXIMUM = Kind.Maximum

abbrev pub LENT : Kind
LENT = Kind.Lent

-- a word is `-`, which is none
unfoldable pub none_in : List ℕ → ℕ → ℕ → Bool
none_in s from to = cond (leb to (length s) && leb from to) (is_none (take (to - from) (drop from s))) false

-- the largest word stands for none, and for no number that a line says
unfoldable pub below_none : Number → Number
below_none n = cond (ltb n.value value_end) n (record { negative = n.negative; value = value_end })

-- a maximum: a number, or none
unfoldable pub maximum_in : List ℕ → ℕ → ℕ → Option Number
maximum_in s from to = cond (none_in s from to) (Some (record { negative = false; value = most })) (option_map below_none (number_in s from to))

-- "a flag other than 0 or 1 .. make a bad line"; what is lent is no negative count
unfoldable pub is_of : Number → Kind → Bool
is_of n Kind.Any = true
is_of n Kind.Flag = ltb n.value 2
is_of n Kind.Maximum = true
is_of n Kind.Lent = not n.negative

-- a number where it is of its kind
abbrev pub kept : Kind → Option Number → Option Number
kept kind None = None
kept kind (Some n) = cond (is_of n kind) (Some n) None

unfoldable pub field_in : List ℕ → ℕ → ℕ → Kind → Option Number
field_in s from to Kind.Any = kept Kind.Any (number_in s from to)
field_in s from to Kind.Flag = kept Kind.Flag (number_in s from to)
field_in s from to Kind.Maximum = maximum_in s from to
field_in s from to Kind.Lent = kept Kind.Lent (number_in s from to)

-- the k-th number of a line, by the ends of its words
abbrev pub field_at : List ℕ → List ℕ → Kind → ℕ → Option Number
field_at s ends kind k = field_in s (span_of ends (k + 1)).from (span_of ends (k + 1)).to kind

-- what a number leaves stored
abbrev pub value_of : Option Number → ℕ
value_of None = 0
value_of (Some n) = n.value

-- the numbers of some kinds from the k-th on: whether every one is good, and what they leave stored, up to the first that is not
unfoldable pub all_good : List ℕ → List ℕ → ℕ → List Kind → Bool
all_good s ends k [] = true
all_good s ends k (x ∷ xs) = cond (is_some (field_at s ends x k)) (all_good s ends (k + 1) xs) false

unfoldable pub stored_from : List ℕ → List ℕ → ℕ → List Kind → List ℕ → List ℕ
stored_from s ends k [] fs = fs
stored_from s ends k (x ∷ xs) fs =
    cond (is_some (field_at s ends x k)) (stored_from s ends (k + 1) xs (set fs k (value_of (field_at s ends x k)))) fs

-- the kinds of a command's numbers
abbrev pub kinds_of : Command → List Kind
kinds_of Command.Unknown = []
kinds_of Command.Start = ANY ∷ FLAG ∷ FLAG ∷ ANY ∷ MAXIMUM ∷ MAXIMUM ∷ ANY ∷ ANY ∷ ANY ∷ FLAG ∷ ANY ∷ FLAG ∷ []
kinds_of Command.Join = ANY ∷ ANY ∷ ANY ∷ []
kinds_of Command.Leave = ANY ∷ ANY ∷ []
kinds_of Command.Lost = ANY ∷ ANY ∷ []
kinds_of Command.Back = ANY ∷ ANY ∷ []
kinds_of Command.Override = ANY ∷ ANY ∷ ANY ∷ []
kinds_of Command.Clear = ANY ∷ []
kinds_of Command.Move = ANY ∷ []
kinds_of Command.Ask = []
kinds_of Command.Plan = LENT ∷ []
kinds_of Command.Rows = LENT ∷ []
kinds_of Command.Frame = ANY ∷ ANY ∷ LENT ∷ []
kinds_of Command.Request = []
kinds_of Command.Response = ANY ∷ []
kinds_of Command.Conf = ANY ∷ ANY ∷ ANY ∷ ANY ∷ FLAG ∷ FLAG ∷ FLAG ∷ FLAG ∷ LENT ∷ []
kinds_of Command.Meas = []

abbrev pub is_known : Command → Bool
is_known Command.Unknown = false
is_known Command.Start = true
is_known Command.Join = true
is_known Command.Leave = true
is_known Command.Lost = true
is_known Command.Back = true
is_known Command.Override = true
is_known Command.Clear = true
is_known Command.Move = true
is_known Command.Ask = true
is_known Command.Plan = true
is_known Command.Rows = true
is_known Command.Frame = true
is_known Command.Request = true
is_known Command.Response = true
is_known Command.Conf = true
is_known Command.Meas = true

-- whether a line has a command's numbers, and what they leave stored
unfoldable pub numbers_good : List ℕ → List ℕ → Command → Bool
numbers_good s ends c = is_known c && all_good s ends 0 (kinds_of c)

unfoldable pub numbers_stored : List ℕ → List ℕ → Command → List ℕ → List ℕ
numbers_stored s ends c fs = stored_from s ends 0 (kinds_of c) fs

-- The record and the answer's counts as words. Assumes nothing: these are definitions.
use Rattle.std.specs.Prelude.{ℕ, List, [], ◌∷◌, get_or}
use Rattle.std.proofs.lemmas.List.Edits.{sets}
use Rattle.receiver.specs.Receive.{received}
use Rattle.receiver.specs.declared.record.Record.{Record}
use Rattle.receiver.specs.declared.record.Answer.{Answer}

-- the record that words say
unfoldable pub record_in : List ℕ → Record
record_in ws = record { have = get_or ws 0 0; need = get_or ws 1 0; closed = get_or ws 2 0 }

-- the words of a record
unfoldable pub record_words : Record → List ℕ
record_words r = r.have ∷ r.need ∷ r.closed ∷ []

-- the words of an answer, beside its number
unfoldable pub answer_words : Answer → List ℕ
answer_words a = a.taken ∷ a.length ∷ []

-- what a call leaves of the record's words ws, given the room and the scrap; and of the words cs that its counts go into
abbrev pub words_left : List ℕ → List ℕ → List ℕ → List ℕ
words_left ws room scrap = sets ws 0 (record_words (received (record_in ws) room scrap).after)

abbrev pub counts_left : List ℕ → List ℕ → List ℕ → List ℕ → List ℕ
counts_left cs ws room scrap = sets cs 0 (answer_words (received (record_in ws) room scrap).answer)

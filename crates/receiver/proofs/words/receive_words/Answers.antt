-- The record that the words say goes through `step`, and what comes back is stored.
use Rattle.receiver.proofs.Worded.{worded}
use Rattle.receiver.proofs.words.receive_words.Goals as goal

pub returns : goal.returns
returns c =
    let all =
    worded c.args.words.now c.args.room.now c.args.scrap.now c.args.counts.now _ _ _ _ _ c.record_in.ensures c.step-x.ensures
    c.put_record.ensures c.put_counts.ensures in
    record { value = all.0; words_after = all.1; room_after = all.2; counts_after = all.3 }

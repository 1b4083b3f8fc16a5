-- The store stays sound. Assumes nothing.
use Rattle.pair_rules.specs.Table.{cut_places}
use Rattle.pair_after.proofs.SoundThen.{sound_then}
use Rattle.promise_pairs.specs.Demands.{StaysSound}
use Rattle.promise_pairs.proofs.GoesAhead.{splits_ready, store_written}

-- the store at exit is one that may be lent again
pub stays_sound : StaysSound
stays_sound how s t w list p =
    let (g, e) = splits_ready how s t w list p in
    rw (store_written how s t w list p) (sound_then s t (cut_places how s t) g)

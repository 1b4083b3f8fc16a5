-- `lookup_new_objects::write_lookups` meets its contract: the new lookups before m are written. Assumes nothing.
use Rattle.store_rules.specs.Store.{lent}
use Rattle.lookup_new_objects.proofs.Looping.{LookupsWritten}
use Rattle.lookup_new_objects.proofs.write_lookups.Given as goal

abbrev pub invariant-loop-m : goal.invariant-loop-m
invariant-loop-m l = LookupsWritten (lent l.initial.«data» l.initial.objects l.links l.counts) l.table l.tables l.lookups l.«data» l.objects l.at l.row l.m

-- `links::pack_links` meets its contract: the links of the rows before k that stay are written, and all rows from k on are as they came. Assumes nothing.
use mathlib.Core.List.{[]}
use Rattle.store_rules.specs.Store.{lent}
use Rattle.compact_rules.specs.Marks.{has_mark}
use Rattle.compact_carrying.proofs.Sifting.{Sifting}
use Rattle.compact_carrying.proofs.links.pack_links.Given as goal

abbrev pub invariant-loop-k : goal.invariant-loop-k
invariant-loop-k l = Sifting (lent [] [] l.initial.links l.counts) (has_mark l.walk) l.links l.j l.k

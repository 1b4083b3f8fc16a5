-- `pair_row_points::compute_format2_split_points` meets its contract: after each row the code stands where the cut rule does. Assumes nothing.
use mathlib.Core.Path.{refl}
use native.Mathlib.Omega.{arith}
use borrow.Author.Rules.{rules}
use Rattle.store_rules.proofs.Sound.{sound_fits}
use Rattle.store_reader.proofs.Rows.{in_order_lem}
use Rattle.pair_row_points.proofs.ClassRows.{rows_start, rows_stop, rows_back}
use Rattle.pair_row_points.proofs.compute_format2_split_points.Goals as goal

pub overflow_cast-count : goal.overflow_cast-count
overflow_cast-count c = omega (arith, (sound_fits _ c.requires.1.table.described.is_sound).links_most)

pub first_row-requires : goal.first_row-requires
first_row-requires c = in_order_lem _ (sound_fits _ c.requires.1.table.described.is_sound)

pub loop-i-init : goal.loop-i-init
loop-i-init c =
    record {
      inside = search rules;
      walk = refl;
      glyphs = refl;
      long = refl;
      below = λ b r. rows_start _ r c.new.ensures c.first_row.ensures c.new-2.ensures;
    }

pub weigh_row-rows-requires : goal.weigh_row-rows-requires
weigh_row-rows-requires c = (c.loop-i-test.true, (c.requires.0, _, c.loop-i.invariant.below c.requires.0 c.requires.1))

pub loop-i-preserved : goal.loop-i-preserved
loop-i-preserved c =
    record {
      inside = search rules;
      walk = search rules;
      glyphs = search rules;
      long = search rules;
      below = λ b r. c.weigh_row-rows.ensures b _ (c.loop-i.invariant.below b r);
    }

pub returns : goal.returns
returns c =
    let below = c.loop-i.invariant.below in
    record { places2 = λ b r. rows_stop (below b r) (search rules); tells2 = λ b r. rows_back (below b r) (search rules) }

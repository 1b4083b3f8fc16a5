-- `cut_parts::order_part` meets its contract: the parts are lent, and back in order. Assumes nothing.
use Rattle.cut_parts.proofs.Ordering.{glyph_order_long, item_order_long, put_back}
use Rattle.cut_parts.proofs.order_part.Goals as goal

pub returns : goal.returns
returns c = record { glyphs_value = put_back _ _ _ _ _ c.requires.0 c.sort_pairs.ensures.keys_value (glyph_order_long _ _ _ _ c.requires.0 c.requires.1); classes_value = put_back _ _ _ _ _ c.requires.0 c.sort_pairs.ensures.beside_value (item_order_long _ _ _ _ c.requires.0 c.requires.1) }

-- `glyph_set::words::word_at` meets its contract: the eight bytes from byte 8 * k on are one number. Assumes nothing.
use Rattle.std.proofs.Common.{◌≡◌, ℕ, ◌+◌, ◌-◌, ◌*◌, arith, List, get_or, drop, ap, ◌∙◌}
use lib.Seq.{get_or-take, get_or-drop}
use Rattle.glyph_set.specs.Words.{WordOf}
use Rattle.glyph_set.proofs.WordBits.{number_word, number_sum}
use Rattle.glyph_set.proofs.words.word_at.Goals as goal

pub returns : goal.returns
returns c =
    let s = c.args.set.now in
    let at = 8 * c.args.k in
    let part = c.copy_from_slice.ensures.after in
    let n = number_sum s at _ (λ i l. ap (λ (xs : List ℕ). get_or xs i 0) part ∙ get_or-take (at + 8 - at) (drop at s) i 0 (omega arith) ∙ get_or-drop at s i 0) in
    let w : WordOf s (8 * at) c.from_le_bytes.result = rw (c.from_le_bytes.ensures, n) (number_word s at (λ i. (c.type_inv.set i).fits)) in
    let e : 8 * at ≡ 64 * c.args.k = omega arith in
    rw e at w

-- `ot_wire::put_u16` meets its contract: two bytes are written, the higher one first. Assumes nothing.
use Rattle.std.proofs.Common.{◌≡◌, ℕ, ◌+◌, ◌-◌, ◌/◌, ◌%◌, ◌<◌, List, [], ◌∷◌, take, drop, arith, ◌∙◌, append_assoc, sym}
use lib.Seq.{drop-drop}
use borrow.Rule.Slice.PartMut.{put_mid}
use Rattle.folds.specs.Lists.{put}
use Rattle.ot_layouts.specs.Numbers.{be16}
use Rattle.ot_wire.proofs.put_u16.Goals as goal

two : (d : List ℕ) (a v : ℕ) {xs : List ℕ} → v < 65536 → xs ≡ v / 256 % 256 ∷ v % 256 ∷ [] → put_mid a (a + 2 - a) d xs ≡ put d a (be16 v)
unfolding put be16
two d a v {xs} l e =
    let n : a + 2 - a ≡ 2 = omega arith in
    let h : v / 256 % 256 ≡ v / 256 = omega arith in
    rw (n, e, h, drop-drop 2 a d) (sym (append_assoc (take a d) (v / 256 ∷ v % 256 ∷ []) (drop (a + 2) d)))

pub returns : goal.returns
returns c = two _ _ _ c.ranges.v.fits (c.copy_from_slice.ensures.after ∙ c.to_be_bytes.ensures)

-- `store_reader::first_row` meets its contract: at first all rows are left. Assumes nothing.
use Prim.Native.Nat.{ℕ}
use mathlib.Core.Path.{subst}
use Rattle.store_reader.specs.Rows.{FirstRow}
use Rattle.store_reader.proofs.Rows.{whole}
use Rattle.store_reader.proofs.first_row.Goals as goal

pub first_row_between-requires : goal.first_row_between-requires
first_row_between-requires c = (c.requires, whole _ _ _)

pub returns : goal.returns
returns c =
    let a = c.args in
    subst (λ (key : ℕ). FirstRow a.links.now a.count key c.first_row_between.result) c.key_of.ensures c.first_row_between.ensures

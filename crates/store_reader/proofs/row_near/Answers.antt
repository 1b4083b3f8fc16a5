-- `store_reader::row_near` meets its contract: the row that is looked at parts those that are left, or is the one. Assumes nothing.
use Prim.Native.Nat.{ℕ}
use mathlib.Core.Path.{sym, subst}
use native.Mathlib.Omega.{arith}
use Rattle.store_reader.specs.Rows.{key_of, FirstRow, Bracket}
use Rattle.store_reader.proofs.Rows.{key_asks, up, down, hit}
use Rattle.store_reader.proofs.row_near.Goals as goal

pub row_down-requires : goal.row_down-requires
row_down-requires c =
    let as-key : (let a = c.args in Bracket a.links.now a.count c.key_of-key.result a.lo a.hi) = let a = c.args in
    subst (λ (key : ℕ). Bracket a.links.now a.count key a.lo a.hi) (sym c.key_of-key.ensures) c.requires.1 in
    (c.requires.0, as-key)

pub returns-then-hi-near : goal.returns-then-hi-near
returns-then-hi-near c =
    let found : (r : ℕ) → (let a = c.args in FirstRow a.links.now a.count c.key_of-key.result r) → (let a = c.args in FirstRow a.links.now a.count (key_of a.parent a.position) r) = λ r f. let a = c.args in subst (λ (key : ℕ). FirstRow a.links.now a.count key r) c.key_of-key.ensures f in
    found _ c.row_down.ensures

pub row_up-requires : goal.row_up-requires
row_up-requires c =
    let as-key : (let a = c.args in Bracket a.links.now a.count c.key_of-key.result a.lo a.hi) = let a = c.args in
    subst (λ (key : ℕ). Bracket a.links.now a.count key a.lo a.hi) (sym c.key_of-key.ensures) c.requires.1 in
    (c.requires.0, as-key)

pub returns-then-near-lo : goal.returns-then-near-lo
returns-then-near-lo c =
    let found : (r : ℕ) → (let a = c.args in FirstRow a.links.now a.count c.key_of-key.result r) → (let a = c.args in FirstRow a.links.now a.count (key_of a.parent a.position) r) = λ r f. let a = c.args in subst (λ (key : ℕ). FirstRow a.links.now a.count key r) c.key_of-key.ensures f in
    found _ c.row_up.ensures

pub key_at-found-requires : goal.key_at-found-requires
key_at-found-requires c = key_asks c.requires.0 _ (omega (arith, c.requires.1.hi_le))

pub row_up-requires-then-found-key : goal.row_up-requires-then-found-key
row_up-requires-then-found-key c =
    let as-key : (let a = c.args in Bracket a.links.now a.count c.key_of-key.result a.lo a.hi) = let a = c.args in
    subst (λ (key : ℕ). Bracket a.links.now a.count key a.lo a.hi) (sym c.key_of-key.ensures) c.requires.1 in
    let order = c.requires.0 in
    (order, up order (as-key) c.args.near (omega arith) (omega arith) (omega arith))

pub returns-then-found-key : goal.returns-then-found-key
returns-then-found-key c =
    let found : (r : ℕ) → (let a = c.args in FirstRow a.links.now a.count c.key_of-key.result r) → (let a = c.args in FirstRow a.links.now a.count (key_of a.parent a.position) r) = λ r f. let a = c.args in subst (λ (key : ℕ). FirstRow a.links.now a.count key r) c.key_of-key.ensures f in
    found _ c.row_up-then-found-key.ensures

pub row_down-requires-then-key-found : goal.row_down-requires-then-key-found
row_down-requires-then-key-found c =
    let as-key : (let a = c.args in Bracket a.links.now a.count c.key_of-key.result a.lo a.hi) = let a = c.args in
    subst (λ (key : ℕ). Bracket a.links.now a.count key a.lo a.hi) (sym c.key_of-key.ensures) c.requires.1 in
    let order = c.requires.0 in
    (order, down order (as-key) c.args.near (omega arith) (omega arith) (omega arith))

pub returns-then-key-found : goal.returns-then-key-found
returns-then-key-found c =
    let found : (r : ℕ) → (let a = c.args in FirstRow a.links.now a.count c.key_of-key.result r) → (let a = c.args in FirstRow a.links.now a.count (key_of a.parent a.position) r) = λ r f. let a = c.args in subst (λ (key : ℕ). FirstRow a.links.now a.count key r) c.key_of-key.ensures f in
    found _ c.row_down-then-key-found.ensures

pub returns : goal.returns
returns c = hit c.requires.0 c.args.near (omega (arith, c.requires.1.hi_le)) (omega arith)

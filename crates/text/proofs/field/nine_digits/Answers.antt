use Prim.Native.Nat.{◌≤◌}
use native.Mathlib.Nat.{le_trans}
use native.Mathlib.Omega.{arith}
use lib.ListN.{length}
use borrow.Author.Rules.{rules}
use Rattle.text.proofs.Ending.{length_whole, length_parts, nine_count, begun_nine, count_within, ten_small, ten_long, begun_ten}
use Rattle.text.proofs.field.nine_digits.Goals as goal

pub put_billions-requires-clause-in_bounds : goal.put_billions-requires-clause-in_bounds
put_billions-requires-clause-in_bounds c = omega (arith, ten_long _ _ _ c.if-size-ge-BILLION.true c.requires.size_in_bounds)

pub put_billions-requires-clause-value_bound : goal.put_billions-requires-clause-value_bound
put_billions-requires-clause-value_bound c = ten_small _ _ (le_trans c.requires.size_in_bounds c.requires.out_len_bound)

pub returns-then-size-ge-BILLION : goal.returns-then-size-ge-BILLION
returns-then-size-ge-BILLION c =
    let large = c.if-size-ge-BILLION.true in
    let ten = ten_long _ _ _ large c.requires.size_in_bounds in
    begun_ten c.args.out.now _ _ _ _ (omega (arith, ten, c.requires.out_len_bound)) (le_trans c.requires.size_in_bounds c.requires.out_len_bound) large
    c.put_billions.ensures.value c.put_billions.ensures.out_after

pub digit_count-high-requires : goal.digit_count-high-requires
digit_count-high-requires c = nine_count _ _ (search rules) (le_trans c.requires.size_in_bounds c.requires.out_len_bound)

pub overflow_sub-start : goal.overflow_sub-start
overflow_sub-start c =
    let room : c.digit_count-high.result ≤ length c.args.out.now = rw c.digit_count-high.ensures (count_within _ _ _ c.requires.size_in_bounds) in
    omega (arith, room)

pub overflow_sub-start-then-decimals-gt0 : goal.overflow_sub-start-then-decimals-gt0
overflow_sub-start-then-decimals-gt0 c =
    omega (arith, c.requires.size_in_bounds, length_parts _ _ _ c.if-decimals-gt0.true c.digit_count-high.ensures)

pub returns-then-decimals-gt0 : goal.returns-then-decimals-gt0
returns-then-decimals-gt0 c =
    begun_nine _ _ _ _ _ (le_trans c.requires.size_in_bounds c.requires.out_len_bound) (search rules) c.digit_count-high.ensures
    (omega (arith, c.requires, length_parts _ _ _ c.if-decimals-gt0.true c.digit_count-high.ensures))

pub returns-else-decimals-gt0 : goal.returns-else-decimals-gt0
returns-else-decimals-gt0 c =
    begun_nine _ _ _ _ _ (le_trans c.requires.size_in_bounds c.requires.out_len_bound) (search rules) c.digit_count-high.ensures
    (omega (arith, c.requires, length_whole _ _ _ (search rules) c.digit_count-high.ensures))

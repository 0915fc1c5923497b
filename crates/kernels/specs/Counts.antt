-- Maps that say how often a row comes.
use Rattle.std.specs.Prelude.{◌≡◌, ℕ, List}
use Rattle.std.specs.BTreeMap.{BTreeMap, get}
use Rattle.std.specs.declared.cmp.Ordering.{Ordering}
use Rattle.std.specs.Cmp.{IsTotalOrder, nat_cmp_total, on_total, then_total}
use Rattle.std.specs.Option.{unwrap_or}
use Rattle.std.specs.Ordering.{nat_cmp, on, then_cmp}
use Rattle.sqlval.specs.Value.{Row}
use Rattle.denote.specs.Bag.{times}
use Rattle.kernels.specs.KeyOrder.{row_order, row_order_total}
use Rattle.kernels.specs.Digest.{row_digest}
use Rattle.kernels.specs.declared.row_key.RowKey.{RowKey}

-- by the digests, and where these tie by the rows
abbrev pub key_order : RowKey → RowKey → Ordering
key_order = then_cmp (on (λ (key : RowKey). key.digest) nat_cmp) (on (λ (key : RowKey). key.values.now) row_order)

pub key_order_total : IsTotalOrder key_order
key_order_total = then_total (on_total (λ (key : RowKey). key.digest) nat_cmp_total) (on_total (λ (key : RowKey). key.values.now) row_order_total)

-- a key that has the digest of its row
abbrev pub IsKey : RowKey → Type 0
IsKey key = key.digest ≡ row_digest key.values.now

-- a map says of each row how often it comes among these
pub record Counts (map : BTreeMap RowKey ℕ) (rows : List Row) : Type 0 where
  pub times : (key : RowKey) → IsKey key → unwrap_or (get key_order map key) 0 ≡ times key.values.now rows

-- A text made of its characters.
use Rattle.std.proofs.Common.{◌≡◌, sym, ℕ, List, Bool, true, false, Option, Some, None}
use Rattle.std.specs.Prelude.{if◌then◌else◌}
use Rattle.items.specs.Text.{as_text, is_text}

pub text-is : (codes text : List ℕ) → Some text ≡ as_text codes → text ≡ codes
text-is codes text e = go (is_text codes) e
  where
    go : (b : Bool) → Some text ≡ (if b then Some codes else None) → text ≡ codes
    go true e = cc e
    go false e = absurd (cc e)

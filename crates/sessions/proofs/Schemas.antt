-- What a session sees before its transaction begins.
use Rattle.std.proofs.Common.{◌≡◌, ◌∙◌, refl, sym, ap, ℕ, Bool, true, false, cond, Option, None, Some}
use Rattle.std.specs.FinMap.{get, insert}
use Rattle.session_definitions.specs.World.{is_session}
use Rattle.store.specs.declared.view.View.TheVariants as View
use Rattle.store.specs.Stored.{Found, Stored, begun}
use Rattle.store.specs.View.{found_in, seen_by}
use Rattle.transactions.specs.Shown.{view_in}
use Rattle.transactions.proofs.Maps.{get_here}
use Rattle.transactions.proofs.Orders.{begun_by, newest}

-- it is what a statement sees in the transaction that it begins
pub seen_before : (st : Stored) (w : Option ℕ) (s : ℕ) → seen_by (begun st s) (view_in w s) ≡ seen_by st (view_in w s)
seen_before st w s = begun_by st s (λ x. seen_by x (view_in w s) ≡ seen_by st (view_in w s)) (λ f is. refl) (λ none. by none (is_session s w))
  where
    by : get st.readers s ≡ None → (b : Bool)
        → seen_by (record st { readers = insert st.readers s (newest st) }) (cond b View.Working (View.Found s)) ≡ seen_by st (cond b View.Working (View.Found s))
    by none true = refl
    by none false = ap (found_in st.last) (get_here st.readers s (newest st)) ∙ sym (ap (found_in st.last) none)

-- What a cutter has read.
use Rattle.std.proofs.Common.{◌≡◌, ℕ, true, List, [], ◌∷◌, ◌++◌, sym, ap, ◌∙◌, subst, refl, append_assoc, append-nil, inl, inr}
use Rattle.script_pieces.specs.declared.place.Place.{Place}
use Rattle.script_pieces.specs.declared.place.Place.TheVariants.{Outside}
use Rattle.script_pieces.specs.declared.stage.Stage.{Stage}
use Rattle.script_pieces.specs.declared.stage.Stage.TheVariants.{Blank}
use Rattle.script_pieces.specs.declared.request.Request as found_request
use Rattle.script_pieces.specs.declared.cutter.Cutter.{Cutter}
use Rattle.script_pieces.specs.Pieces.{semicolon, IsUnended, EndsNowhere}
use Rattle.script_pieces.specs.PieceMeaning as meaning
use Rattle.script_pieces.specs.PieceMeaning.{Asks, AsksFor, text_of_call}
use Rattle.script_pieces.specs.Place.{place_after, is_outside, LeadsTo}
use Rattle.script_pieces.specs.Cutter.{MayGoOn, IsEnd, Steps, WouldAsk, asked, HasRead, GoesOn, EndsAt, EndsWithout}
use Rattle.script_pieces.proofs.Places.{leads_on, ends_piece, unended, leads_from_nothing}
use Rattle.script_pieces.proofs.Texts.{text_twice}
use Rattle.script_pieces.proofs.OneRequest.{one_request}
use Rattle.script_pieces.proofs.OnePiece.{unended_is_no_piece}

asks_for : (piece : List ℕ) (request : meaning.Request) → Asks piece request → AsksFor piece request
asks_for piece request asks = record { asks = asks; only = λ other also. one_request piece other request also asks }

nowhere : (bytes : List ℕ) → IsUnended bytes → EndsNowhere bytes
nowhere bytes is = record { unended = is; no_piece = λ piece rest first. unended_is_no_piece bytes piece rest is first }

pub nothing_asked : (rest : List ℕ) (request : meaning.Request) → WouldAsk Outside Blank [] rest request → Asks rest request
nothing_asked rest request would = would refl [] refl

pub fresh : (cutter : Cutter) → cutter.place ≡ Outside → cutter.stage ≡ Blank → cutter.text ≡ [] → HasRead [] cutter
fresh cutter place_is stage_is text_is = record {
  leads = let P : Place → Type 0 = λ p. LeadsTo p [] in subst P (sym place_is) leads_from_nothing;
  asks = λ rest request would.
      let P : Place → Type 0 = λ p. WouldAsk p cutter.stage cutter.text rest request in
      let Q : Stage → Type 0 = λ s. WouldAsk Outside s cutter.text rest request in
      let R : List ℕ → Type 0 = λ t. WouldAsk Outside Blank t rest request in
      nothing_asked rest request (subst R text_is (subst Q stage_is (subst P place_is would)));
}

pub goes_on : (old new : Cutter) (b : ℕ) → MayGoOn old.place b → new.place ≡ place_after old.place b
    → Steps old.place old.stage old.text b new.stage new.text → GoesOn old b new
goes_on old new b may place_is steps bytes read =
    let leads = leads_on old.place bytes b read.leads may in
    let P : Place → Type 0 = λ p. LeadsTo p (bytes ++ b ∷ []) in (
      nowhere (bytes ++ b ∷ []) (unended (place_after old.place b) (bytes ++ b ∷ []) leads),
      record {
        leads = subst P (sym place_is) leads;
        asks = λ rest request would.
            let Q : Place → Type 0 = λ p. WouldAsk p new.stage new.text rest request in
            let R : List ℕ → Type 0 = λ l. Asks l request in
            subst R (sym (append_assoc bytes (b ∷ []) rest)) (read.asks (b ∷ rest) request (steps rest request (subst Q place_is would)));
      },
    )

pub ends_at : (old new : Cutter) (request : found_request.Request) (text : List ℕ) → is_outside old.place ≡ true
    → ((tail : List ℕ) → IsEnd old.place tail → WouldAsk old.place old.stage old.text tail (asked request (text_of_call (text ++ tail))))
    → new.text ≡ text_of_call (text ++ semicolon ∷ []) → EndsAt old semicolon request new
ends_at old new request text outside would text_is bytes read = (
  λ rest. record { before = ends_piece old.place bytes rest outside read.leads; whole = sym (append_assoc bytes (semicolon ∷ []) rest) },
  let P : List ℕ → Type 0 = λ l. Asks (bytes ++ semicolon ∷ []) (asked request l) in
      asks_for _ _ (subst P (sym (ap text_of_call text_is ∙ text_twice (text ++ semicolon ∷ [])))
      (read.asks (semicolon ∷ []) (asked request (text_of_call (text ++ semicolon ∷ []))) (would (semicolon ∷ []) (inr (refl, outside))))),
)

pub ends_without : (old new : Cutter) (request : found_request.Request)
    → ((tail : List ℕ) → IsEnd old.place tail → WouldAsk old.place old.stage old.text tail (asked request (text_of_call (new.text ++ tail))))
    → EndsWithout old request new
ends_without old new request would bytes read = (
  nowhere bytes (unended old.place bytes read.leads),
  let P : List ℕ → Type 0 = λ l. Asks l (asked request (text_of_call new.text)) in
      let Q : List ℕ → Type 0 = λ l. WouldAsk old.place old.stage old.text [] (asked request (text_of_call l)) in
      asks_for _ _ (subst P (append-nil bytes) (read.asks [] (asked request (text_of_call new.text)) (subst Q (append-nil new.text) (would [] (inl refl))))),
)

-- The pieces of what was read, and what is left of it.
use Rattle.std.proofs.Common.{◌≡◌, ◌≢◌, refl, ap, sym, subst, ◌∙◌, ℕ, Bool, true, false, List, [], ◌∷◌, ◌++◌, append_assoc, append-nil, inl, inr, ◌==◌}
use Rattle.std.proofs.lemmas.Bool.{eqb-true, eqb-false, true≢false}
use Rattle.script_pieces.specs.declared.cutter.Cutter.{Cutter}
use Rattle.script_pieces.specs.declared.place.Place.{Place}
use Rattle.script_pieces.specs.declared.place.Place.TheVariants.{Outside}
use Rattle.script_pieces.specs.declared.request.Request as found
use Rattle.script_pieces.specs.PieceMeaning.{Asks}
use Rattle.script_pieces.specs.Pieces.{semicolon, IsUnended, IsFirstPiece, ArePieces, StandBefore, AreEnded}
use Rattle.script_pieces.specs.Place.{place_after, is_outside, LeadsTo}
use Rattle.script_pieces.specs.Cutter.{HasRead, GoesOn, EndsAt, asked, call_text}
use Rattle.script_pieces.proofs.Places.{ends_piece, leads_on, leads_from_nothing, unended}
use Rattle.scripts.specs.Playing.{IsEndedPiece, AreEndedPieces, joined, HasCut}

-- ---- pieces, one after another

joined_more : (pieces : List (List ℕ)) (piece : List ℕ) → joined (pieces ++ piece ∷ []) ≡ joined pieces ++ piece
joined_more [] piece = append-nil piece
joined_more (first ∷ pieces) piece = ap (λ l. first ++ l) (joined_more pieces piece) ∙ sym (append_assoc first (joined pieces) piece)

ended_more : (pieces : List (List ℕ)) (piece : List ℕ) → AreEndedPieces pieces → IsEndedPiece piece → AreEndedPieces (pieces ++ piece ∷ [])
ended_more [] piece ended last = (last, tt)
ended_more (first ∷ pieces) piece (is, ended) last = (is, ended_more pieces piece ended last)

front_piece : (piece more : List ℕ) (pieces : List (List ℕ)) → IsEndedPiece piece → IsFirstPiece ((piece ++ joined pieces) ++ more) piece (joined pieces ++ more)
front_piece piece more pieces ended =
    subst (λ l. IsFirstPiece l piece (joined pieces ++ more)) (sym (append_assoc piece (joined pieces) more)) (ended (joined pieces ++ more))

stand_before : (pieces : List (List ℕ)) (more later : List ℕ) (others : List (List ℕ)) → AreEndedPieces pieces → StandBefore more others later
    → StandBefore (joined pieces ++ more) (pieces ++ others) later
stand_before [] more later others ended stand = stand
stand_before (piece ∷ pieces) more later others (is, ended) stand =
    (joined pieces ++ more, front_piece piece more pieces is, stand_before pieces more later others ended stand)

ended_before : (pieces : List (List ℕ)) (more : List ℕ) (others : List (List ℕ)) → AreEndedPieces pieces → AreEnded more others → AreEnded (joined pieces ++ more) (pieces ++ others)
ended_before pieces more others ended are = record {
  rest = are.rest;
  before = stand_before pieces more are.rest others ended are.before;
  unended = are.unended;
}

all_before : (pieces : List (List ℕ)) (more : List ℕ) (others : List (List ℕ)) → AreEndedPieces pieces → ArePieces more others → ArePieces (joined pieces ++ more) (pieces ++ others)
all_before [] more others ended are = are
all_before (piece ∷ pieces) more others (is, ended) are =
    inl (joined pieces ++ more, front_piece piece more pieces is, all_before pieces more others ended are)

-- ---- any bytes have pieces that end in them

-- some pieces end in these bytes
record HasEnded (bytes : List ℕ) : Type 0 where
  pub pieces : List (List ℕ)
  pub are : AreEnded bytes pieces

first_and : (place : Place) (bytes rest : List ℕ) → LeadsTo place bytes → is_outside place ≡ true → HasEnded rest → HasEnded (bytes ++ semicolon ∷ rest)
first_and place bytes rest leads outside later = record {
  pieces = (bytes ++ semicolon ∷ []) ∷ later.pieces;
  are = record {
    rest = later.are.rest;
    before = (rest, record { before = ends_piece place bytes rest outside leads; whole = sym (append_assoc bytes (semicolon ∷ []) rest) }, later.are.before);
    unended = later.are.unended;
  };
}

one_byte : (place : Place) (bytes : List ℕ) (b : ℕ) (rest : List ℕ) → LeadsTo place bytes
    → ((next : Place) (more : List ℕ) → LeadsTo next more → HasEnded (more ++ rest))
    → (e : Bool) → (b == semicolon) ≡ e → (o : Bool) → is_outside place ≡ o → HasEnded (bytes ++ b ∷ rest)
one_byte place bytes b rest leads later true e true o =
    subst (λ (c : ℕ). HasEnded (bytes ++ c ∷ rest)) (sym (eqb-true b semicolon e)) (first_and place bytes rest leads o (later Outside [] leads_from_nothing))
one_byte place bytes b rest leads later true e false o =
    subst HasEnded (append_assoc bytes (b ∷ []) rest)
    (later (place_after place b) (bytes ++ b ∷ []) (leads_on place bytes b leads (λ outside. absurd (true≢false (sym outside ∙ o)))))
one_byte place bytes b rest leads later false e outside o =
    subst HasEnded (append_assoc bytes (b ∷ []) rest)
    (later (place_after place b) (bytes ++ b ∷ []) (leads_on place bytes b leads (λ _. eqb-false b semicolon e)))

has_ended : (rest : List ℕ) (place : Place) (bytes : List ℕ) → LeadsTo place bytes → HasEnded (bytes ++ rest)
has_ended [] place bytes leads = record {
  pieces = [];
  are = record { rest = bytes ++ []; before = refl; unended = subst IsUnended (sym (append-nil bytes)) (unended place bytes leads) };
}
has_ended (b ∷ rest) place bytes leads =
    one_byte place bytes b rest leads (λ next more l. has_ended rest next more l) (b == semicolon) refl (is_outside place) refl

-- ---- what a cutter has read

pub cut_nothing : (cutter : Cutter) → HasRead [] cutter → HasCut [] [] cutter
cut_nothing cutter read = record { bytes = []; whole = refl; ended = tt; has_read = read }

-- a byte that ends no piece
pub cut_on : (input : List ℕ) (pieces : List (List ℕ)) (old new : Cutter) (b : ℕ) → HasCut input pieces old → GoesOn old b new → HasCut (input ++ b ∷ []) pieces new
cut_on input pieces old new b cut goes = record {
  bytes = cut.bytes ++ b ∷ [];
  whole = ap (λ l. l ++ b ∷ []) cut.whole ∙ append_assoc (joined pieces) cut.bytes (b ∷ []);
  ended = cut.ended;
  has_read = (goes cut.bytes cut.has_read).1;
}

-- the piece that this byte ends
abbrev pub piece_at : (input : List ℕ) (pieces : List (List ℕ)) (cutter : Cutter) → HasCut input pieces cutter → ℕ → List ℕ
piece_at input pieces cutter cut b = cut.bytes ++ b ∷ []

pub asks_at : (input : List ℕ) (pieces : List (List ℕ)) (old new : Cutter) (b : ℕ) (request : found.Request) (cut : HasCut input pieces old) → EndsAt old b request new
    → Asks (cut.bytes ++ b ∷ []) (asked request (call_text new))
asks_at input pieces old new b request cut ends = (ends cut.bytes cut.has_read).1.asks

ended_piece : (bytes : List ℕ) (b : ℕ) → ((rest : List ℕ) → IsFirstPiece (bytes ++ b ∷ rest) (bytes ++ b ∷ []) rest) → IsEndedPiece (bytes ++ b ∷ [])
ended_piece bytes b first rest = subst (λ l. IsFirstPiece l (bytes ++ b ∷ []) rest) (sym (append_assoc bytes (b ∷ []) rest)) (first rest)

whole_with : (input : List ℕ) (pieces : List (List ℕ)) (bytes : List ℕ) (b : ℕ) → input ≡ joined pieces ++ bytes → input ++ b ∷ [] ≡ joined (pieces ++ (bytes ++ b ∷ []) ∷ [])
whole_with input pieces bytes b whole =
    ap (λ l. l ++ b ∷ []) whole ∙ append_assoc (joined pieces) bytes (b ∷ []) ∙ sym (joined_more pieces (bytes ++ b ∷ []))

-- a piece has ended, and the cutter begins a new one
pub cut_at : (input : List ℕ) (pieces : List (List ℕ)) (old new cleared : Cutter) (b : ℕ) (request : found.Request) (cut : HasCut input pieces old) → EndsAt old b request new
    → HasRead [] cleared → HasCut (input ++ b ∷ []) (pieces ++ (cut.bytes ++ b ∷ []) ∷ []) cleared
cut_at input pieces old new cleared b request cut ends read = record {
  bytes = [];
  whole = whole_with input pieces cut.bytes b cut.whole ∙ sym (append-nil (joined (pieces ++ (cut.bytes ++ b ∷ []) ∷ [])));
  ended = ended_more pieces (cut.bytes ++ b ∷ []) cut.ended (ended_piece cut.bytes b (ends cut.bytes cut.has_read).0);
  has_read = read;
}

-- the pieces that have ended
pub cut_ended : (input : List ℕ) (pieces : List (List ℕ)) (cutter : Cutter) → HasCut input pieces cutter → AreEnded input pieces
cut_ended input pieces cutter cut =
    subst (λ l. AreEnded l pieces) (sym cut.whole) (subst (λ l. AreEnded (joined pieces ++ cut.bytes) l) (append-nil pieces)
    (ended_before pieces cut.bytes [] cut.ended (record { rest = cut.bytes; before = refl; unended = unended cutter.place cut.bytes cut.has_read.leads })))

-- A piece has ended, and more bytes were read behind it: their pieces come later.
pub record HasLater (input : List ℕ) (pieces : List (List ℕ)) : Type 0 where
  pub later : List (List ℕ)
  pub are : AreEnded input (pieces ++ later)

pub cut_later : (input : List ℕ) (pieces : List (List ℕ)) (old new : Cutter) (b : ℕ) (request : found.Request) (more : List ℕ) (cut : HasCut input pieces old) → EndsAt old b request new
    → HasLater (input ++ b ∷ more) (pieces ++ (cut.bytes ++ b ∷ []) ∷ [])
cut_later input pieces old new b request more cut ends =
    let done : List (List ℕ) = pieces ++ (cut.bytes ++ b ∷ []) ∷ [] in
    let found = has_ended more Outside [] leads_from_nothing in
    let are : AreEnded (joined done ++ more) (done ++ found.pieces) =
    ended_before done more found.pieces (ended_more pieces (cut.bytes ++ b ∷ []) cut.ended (ended_piece cut.bytes b (ends cut.bytes cut.has_read).0)) found.are in
    let whole : joined done ++ more ≡ input ++ b ∷ more =
    ap (λ l. l ++ more) (sym (whole_with input pieces cut.bytes b cut.whole)) ∙ append_assoc input (b ∷ []) more in
    record { later = found.pieces; are = subst (λ l. AreEnded l (done ++ found.pieces)) whole are }

-- ---- the last piece

last_piece : (bytes : List ℕ) → bytes ≢ [] → IsUnended bytes → ArePieces bytes (bytes ∷ [])
last_piece bytes some unended = inr (some, unended, refl, refl)

pub cut_last : (input : List ℕ) (pieces : List (List ℕ)) (cutter : Cutter) (cut : HasCut input pieces cutter) → cut.bytes ≢ [] → ArePieces input (pieces ++ cut.bytes ∷ [])
cut_last input pieces cutter cut some =
    subst (λ l. ArePieces l (pieces ++ cut.bytes ∷ [])) (sym cut.whole)
    (all_before pieces cut.bytes (cut.bytes ∷ []) cut.ended (last_piece cut.bytes some (unended cutter.place cut.bytes cut.has_read.leads)))

pub cut_none : (input : List ℕ) (pieces : List (List ℕ)) (cutter : Cutter) (cut : HasCut input pieces cutter) → cut.bytes ≡ [] → ArePieces input pieces
cut_none input pieces cutter cut none =
    subst (λ l. ArePieces l pieces) (sym cut.whole) (subst (λ l. ArePieces (joined pieces ++ cut.bytes) l) (append-nil pieces)
    (all_before pieces cut.bytes [] cut.ended none))

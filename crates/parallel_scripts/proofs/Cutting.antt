-- A script is cut piece by piece.
use Rattle.std.proofs.Common.{◌≡◌, ◌≢◌, inl, inr, ℕ, List, [], ◌∷◌, ◌++◌, zero, suc, ◌≤◌, length, take, arith, refl, sym, ap, ◌∙◌, subst, subst₂, append_assoc, append-nil}
use Rattle.script_pieces.specs.declared.cutter.Cutter.{Cutter}
use Rattle.script_pieces.specs.declared.request.Request as found
use Rattle.script_pieces.specs.Pieces.{IsFirstPiece, IsUnended, ArePieces, StandBefore}
use Rattle.script_pieces.specs.PieceMeaning.{Request, Asks, AsksFor, Skips}
use Rattle.script_pieces.specs.Cutter.{HasRead, GoesOn, EndsAt, EndsWithout, asked, call_text}
use Rattle.parallel_scripts.specs.declared.part.Part.{Part}
use Rattle.parallel_scripts.specs.Cut.{Ask, IsCut, parts_of, texts_of}

-- ---- one piece more

stand_more : (all : List ℕ) (pieces : List (List ℕ)) (mid piece rest : List ℕ) → StandBefore all pieces mid → IsFirstPiece mid piece rest
    → StandBefore all (pieces ++ piece ∷ []) rest
stand_more all [] mid piece rest e first = (rest, subst (λ (x : List ℕ). IsFirstPiece x piece rest) (sym e) first, refl)
stand_more all (p ∷ pieces) mid piece rest h first = (h.0, h.1, stand_more h.0 pieces mid piece rest h.2 first)

ask_more : (pieces : List (List ℕ)) (texts : List (List ℕ)) (parts : List Part) (piece : List ℕ) (request : Request) → Ask pieces texts parts → Asks piece request
    → Ask (pieces ++ piece ∷ []) (texts ++ texts_of request) (parts ++ parts_of request)
ask_more [] texts parts piece request h a = (
  request,
  [],
  [],
  a,
  ap (λ l. l ++ texts_of request) h.0 ∙ sym (append-nil (texts_of request)),
  ap (λ l. l ++ parts_of request) h.1 ∙ sym (append-nil (parts_of request)),
  (refl, refl),
)
ask_more (p ∷ pieces) texts parts piece request h a = (
  h.0,
  h.1 ++ texts_of request,
  h.2 ++ parts_of request,
  h.3,
  ap (λ l. l ++ texts_of request) h.4 ∙ append_assoc (texts_of h.0) h.1 (texts_of request),
  ap (λ l. l ++ parts_of request) h.5 ∙ append_assoc (parts_of h.0) h.2 (parts_of request),
  ask_more pieces h.1 h.2 piece request h.6 a,
)

-- ---- as the bytes are read

-- of these bytes some pieces have ended, and the cutter has read the others
pub record HasCut (bytes : List ℕ) (cutter : Cutter) (texts : List (List ℕ)) (parts : List Part) : Type 0 where
  pub pieces : List (List ℕ)
  pub tail : List ℕ
  pub before : (more : List ℕ) → StandBefore (bytes ++ more) pieces (tail ++ more)
  pub read : HasRead tail cutter
  pub ask : Ask pieces texts parts

pub begins : (cutter : Cutter) → HasRead [] cutter → HasCut [] cutter [] []
begins cutter read = record { pieces = []; tail = []; before = λ more. refl; read = read; ask = (refl, refl) }

pub goes_on : (bytes : List ℕ) (b : ℕ) (old new : Cutter) (texts : List (List ℕ)) (parts : List Part) → HasCut bytes old texts parts → GoesOn old b new
    → HasCut (bytes ++ b ∷ []) new texts parts
goes_on bytes b old new texts parts h on = record {
  pieces = h.pieces;
  tail = h.tail ++ b ∷ [];
  before = λ more. subst₂ (λ (x y : List ℕ). StandBefore x h.pieces y) (sym (append_assoc bytes (b ∷ []) more)) (sym (append_assoc h.tail (b ∷ []) more)) (h.before (b ∷ more));
  read = (on h.tail h.read).1;
  ask = h.ask;
}

pub ends_at : (bytes : List ℕ) (b : ℕ) (request : found.Request) (old mid new : Cutter) (texts : List (List ℕ)) (parts : List Part) → HasCut bytes old texts parts
    → EndsAt old b request mid → HasRead [] new
    → HasCut (bytes ++ b ∷ []) new (texts ++ texts_of (asked request (call_text mid))) (parts ++ parts_of (asked request (call_text mid)))
ends_at bytes b request old mid new texts parts h ends read =
    let piece = h.tail ++ b ∷ [] in
    let here = ends h.tail h.read in record {
      pieces = h.pieces ++ piece ∷ [];
      tail = [];
      before = λ more. subst (λ (x : List ℕ). StandBefore x (h.pieces ++ piece ∷ []) more) (sym (append_assoc bytes (b ∷ []) more))
          (stand_more (bytes ++ b ∷ more) h.pieces (h.tail ++ b ∷ more) piece more (h.before (b ∷ more)) (here.0 more));
      read = read;
      ask = ask_more h.pieces texts parts piece (asked request (call_text mid)) h.ask here.1.asks;
    }

-- ---- the last piece

are_ended : (all : List ℕ) (pieces : List (List ℕ)) → StandBefore all pieces [] → ArePieces all pieces
are_ended all [] e = e
are_ended all (p ∷ pieces) h = inl (h.0, h.1, are_ended h.0 pieces h.2)

are_last : (all : List ℕ) (pieces : List (List ℕ)) (tail : List ℕ) → StandBefore all pieces tail → tail ≢ [] → IsUnended tail → ArePieces all (pieces ++ tail ∷ [])
are_last all [] tail e some unended = inr ((λ none. some (sym e ∙ none)), subst IsUnended (sym e) unended, sym e, refl)
are_last all (p ∷ pieces) tail h some unended = inl (h.0, h.1, are_last h.0 pieces tail h.2 some unended)

-- no byte asks for nothing
asks_nothing : Asks [] Request.Nothing
asks_nothing = record {
  body = [];
  begins = record { skipped = Skips.here []; firm = tt };
  asks = record { rest = []; skipped = Skips.here []; finish = inl refl };
}

pub finishes : (bytes : List ℕ) (request : found.Request) (old new : Cutter) (texts : List (List ℕ)) (parts : List Part) → HasCut bytes old texts parts → EndsWithout old request new
    → IsCut bytes (texts ++ texts_of (asked request (call_text new))) (parts ++ parts_of (asked request (call_text new)))
finishes bytes request old new texts parts h ends = by h.tail refl
  where
    last : Request
    last = asked request (call_text new)

    at_end : StandBefore bytes h.pieces h.tail
    at_end = subst₂ (λ (x y : List ℕ). StandBefore x h.pieces y) (append-nil bytes) (append-nil h.tail) (h.before [])

    by : (tail : List ℕ) → h.tail ≡ tail → IsCut bytes (texts ++ texts_of last) (parts ++ parts_of last)
    by [] e =
        let asks = subst (λ (x : List ℕ). AsksFor x last) e (ends h.tail h.read).1 in
        let nothing : last ≡ Request.Nothing = sym (asks.only Request.Nothing asks_nothing) in
        let same : texts ≡ texts ++ texts_of last = sym (ap (λ q. texts ++ texts_of q) nothing ∙ append-nil texts) in
        let alike : parts ≡ parts ++ parts_of last = sym (ap (λ q. parts ++ parts_of q) nothing ∙ append-nil parts) in record {
          pieces = h.pieces;
          are = are_ended bytes h.pieces (subst (λ (x : List ℕ). StandBefore bytes h.pieces x) e at_end);
          ask = subst₂ (λ (x : List (List ℕ)) (y : List Part). Ask h.pieces x y) same alike h.ask;
        }
    by (c ∷ cs) e =
        let some : h.tail ≢ [] = λ none. let bad : c ∷ cs ≡ [] = sym e ∙ none in absurd (cc bad) in
        let here = ends h.tail h.read in record {
          pieces = h.pieces ++ h.tail ∷ [];
          are = are_last bytes h.pieces h.tail at_end some here.0.unended;
          ask = ask_more h.pieces texts parts h.tail last h.ask here.1.asks;
        }

-- ---- the same, as the code has them

pub take_all : {A : Type 0} (n : ℕ) (xs : List A) → length xs ≤ n → take n xs ≡ xs
take_all zero [] h = refl
take_all zero (x ∷ xs) h = absurd (omega (arith, h))
take_all (suc n) [] h = refl
take_all (suc n) (x ∷ xs) h = ap (λ l. x ∷ l) (take_all n xs (omega (arith, h)))

pub goes_with : (bytes all : List ℕ) (b : ℕ) (old new : Cutter) (texts : List (List ℕ)) (parts : List Part) → all ≡ bytes ++ b ∷ [] → HasCut bytes old texts parts → GoesOn old b new
    → HasCut all new texts parts
goes_with bytes all b old new texts parts whole h on = subst (λ (x : List ℕ). HasCut x new texts parts) (sym whole) (goes_on bytes b old new texts parts h on)

pub ends_with : (bytes all : List ℕ) (b : ℕ) (request : found.Request) (old mid new : Cutter) (texts texts' : List (List ℕ)) (parts parts' : List Part) (text : List ℕ) → all ≡ bytes ++ b ∷ []
    → HasCut bytes old texts parts → EndsAt old b request mid → HasRead [] new → text ≡ call_text mid → texts' ≡ texts ++ texts_of (asked request text)
    → parts' ≡ parts ++ parts_of (asked request text) → HasCut all new texts' parts'
ends_with bytes all b request old mid new texts texts' parts parts' text whole h ends read same is are =
    subst (λ (x : List ℕ). HasCut x new texts' parts') (sym whole)
    (subst₂ (λ (t : List (List ℕ)) (p : List Part). HasCut (bytes ++ b ∷ []) new t p)
    (sym (is ∙ ap (λ y. texts ++ texts_of (asked request y)) same)) (sym (are ∙ ap (λ y. parts ++ parts_of (asked request y)) same))
    (ends_at bytes b request old mid new texts parts h ends read))

pub finishes_with : (bytes all : List ℕ) (request : found.Request) (old new : Cutter) (texts texts' : List (List ℕ)) (parts parts' : List Part) (text : List ℕ) → all ≡ bytes
    → HasCut bytes old texts parts → EndsWithout old request new → text ≡ call_text new → texts' ≡ texts ++ texts_of (asked request text)
    → parts' ≡ parts ++ parts_of (asked request text) → IsCut all texts' parts'
finishes_with bytes all request old new texts texts' parts parts' text whole h ends same is are =
    subst (λ (x : List ℕ). IsCut x texts' parts') (sym whole)
    (subst₂ (λ (t : List (List ℕ)) (p : List Part). IsCut bytes t p)
    (sym (is ∙ ap (λ y. texts ++ texts_of (asked request y)) same)) (sym (are ∙ ap (λ y. parts ++ parts_of (asked request y)) same))
    (finishes bytes request old new texts parts h ends))

-- One outcome more behind those that a device has had.
use Rattle.std.proofs.Common.{◌≡◌, ◌⊎◌, inl, inr, ⊎_elim, ℕ, zero, suc, ◌-◌, ◌<◌, ◌≤◌, List, [], ◌∷◌, ◌++◌, length, get_or, drop, refl, sym, ◌∙◌, ap, subst, arith, length-append}
use Rattle.disk.specs.Crashes.{Bytes, Elapses}
use Rattle.crash_disk.specs.declared.outcome.Outcome.{Outcome}
use Rattle.crash_disk.specs.Outcomes.{IsLeft, HadOne, newest}

pub newest_push : (o : Outcome) (ps : List Outcome) (q : Outcome) → newest o (ps ++ q ∷ []) ≡ q
newest_push o [] q = refl
newest_push o (p ∷ ps) q = newest_push p ps q

adds : (xs : List Outcome) (q : Outcome) (c : Bytes) → HadOne (xs ++ q ∷ []) c → HadOne xs c ⊎ IsLeft q c
adds [] q c (inl here) = inr here
adds [] q c (inr none) = absurd none
adds (x ∷ xs) q c (inl here) = inl (inl here)
adds (x ∷ xs) q c (inr there) = ⊎_elim (λ had. inl (inr had)) (λ new. inr new) (adds xs q c there)

keeps : (xs : List Outcome) (q : Outcome) (c : Bytes) → HadOne xs c → HadOne (xs ++ q ∷ []) c
keeps [] q c had = absurd had
keeps (x ∷ xs) q c (inl here) = inl here
keeps (x ∷ xs) q c (inr there) = inr (keeps xs q c there)

drop_push : (t : ℕ) (xs : List Outcome) (q : Outcome) → t ≤ length xs → drop t (xs ++ q ∷ []) ≡ drop t xs ++ q ∷ []
drop_push zero xs q le = refl
drop_push (suc t) [] q le = absurd (omega (arith, le))
drop_push (suc t) (x ∷ xs) q le = drop_push t xs q (omega (arith, le))

elapses_push : (o : Outcome) (ps : List Outcome) (q : Outcome)
    → Elapses (length ps) (length (ps ++ q ∷ [])) (λ t c. HadOne (drop t (o ∷ ps)) c) (λ t c. HadOne (drop t (o ∷ (ps ++ q ∷ []))) c) (IsLeft (newest o (ps ++ q ∷ [])))
elapses_push o ps q = record {
  later = omega (arith, length-append ps (q ∷ []));
  nothing_else = λ t c le left. ⊎_elim (λ had. inl had) (λ new. inr (subst (λ (p : Outcome). IsLeft p c) (sym (newest_push o ps q)) new))
      (adds (drop t (o ∷ ps)) q c (subst (λ (l : List Outcome). HadOne l c) (drop_push t (o ∷ ps) q (omega (arith, le))) left));
  keeps = λ t c le left. subst (λ (l : List Outcome). HadOne l c) (sym (drop_push t (o ∷ ps) q (omega (arith, le)))) (keeps (drop t (o ∷ ps)) q c left);
}

pub elapses_to : (o : Outcome) (ps later : List Outcome) (q : Outcome) → later ≡ ps ++ q ∷ []
    → Elapses (length ps) (length later) (λ t c. HadOne (drop t (o ∷ ps)) c) (λ t c. HadOne (drop t (o ∷ later)) c) (IsLeft (newest o later))
elapses_to o ps later q is =
    subst (λ (l : List Outcome). Elapses (length ps) (length l) (λ t c. HadOne (drop t (o ∷ ps)) c) (λ t c. HadOne (drop t (o ∷ l)) c) (IsLeft (newest o l))) (sym is) (elapses_push o ps q)

pub newest_then : (o : Outcome) (ps later : List Outcome) (q : Outcome) → later ≡ ps ++ q ∷ [] → newest o later ≡ q
newest_then o ps later q is = ap (newest o) is ∙ newest_push o ps q

pub newest_at : (o : Outcome) (ps : List Outcome) (d : Outcome) → 0 < length ps
    → get_or ps (length ps - 1) d ≡ newest o ps
newest_at o [] d some = absurd (omega (arith, some))
newest_at o (p ∷ []) d some = refl
newest_at o (p ∷ q ∷ ps) d some =
    let next : length (p ∷ q ∷ ps) - 1 ≡ suc (length (q ∷ ps) - 1) = omega arith in
    ap (λ (k : ℕ). get_or (p ∷ q ∷ ps) k d) next ∙ newest_at p (q ∷ ps) d (omega arith)

-- What goes on over one step, and what of a traced stream holds of one that is not traced.
use Rattle.reg_http.proofs.Words.{◌∙◌, ℕ, refl, Option, Result, Ghosts, CountedEnd, Text, tally, StreamFault, limits_of, Running, GoesOn}
use Rattle.reg_http.proofs.Words.{ServesStreamTraced, SpendsLent, TrailEnd}
use Rattle.reg_http_read.proofs.Adding.{spends_whole}
use Rattle.reg_http_read.specs.Turns.{Tally}
use Rattle.reg_http.specs.Serving.{ServesStream, SpendsOwn}

-- nothing was done
pub still : {S : Type 0} {g : Ghosts S} {r : Running S} → GoesOn g r r
still = record { clean = λ clean. clean; limits = refl }

-- one thing was done after another
pub goes_on : {S : Type 0} {g : Ghosts S} {a b c : Running S} → GoesOn g a b → GoesOn g b c → GoesOn g a c
goes_on first second = record { clean = λ clean. first.clean (second.clean clean); limits = second.limits ∙ first.limits }

module _ {S R W T : Type 0} {g : Ghosts S} {read : R → Option Text} {held : W → Option Text} {old new : Running S} {r0 r1 : CountedEnd R} {w0 w1 : CountedEnd W} {told_of : T → Option Text}
    {k0 k1 : TrailEnd T} {result : Result ℕ StreamFault} where
  -- a server of its own does as one that is lent
  pub owned : ServesStreamTraced g SpendsLent read held old new r0 r1 w0 w1 told_of k0 k1 result → ServesStreamTraced g SpendsOwn read held old new r0 r1 w0 w1 told_of k0 k1 result
  owned it =
      let (left, spends) = it.spends in
      record { serves = it.serves; spends = (left, spends_whole (limits_of old).turns left (tally r0 w0) (tally r1 w1) result spends); told = it.told; keeps = it.keeps }

  -- whatever its trail is
  pub untraced : {Counts : ℕ → ℕ → Tally → Tally → Result ℕ StreamFault → Type 0}
      → ServesStreamTraced g Counts read held old new r0 r1 w0 w1 told_of k0 k1 result → ServesStream g Counts read held old new r0 r1 w0 w1 result
  untraced it = record {
    serves = λ clean s shows. let (xs, run, served, _) = it.serves clean s shows in (xs, run, served);
    spends = it.spends;
    keeps = it.keeps;
  }

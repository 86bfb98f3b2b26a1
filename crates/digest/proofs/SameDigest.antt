-- Two digests with the same bytes are one: their facts are proved in one way only.
use Rattle.std.proofs.Common.{◌≡◌, ℕ, ◌<◌, length, get_or}
use mathlib.Core.HLevel.{Π_prop, is_prop→PathP}
use native.Mathlib.Nat.{ℕ_set}
use native.Mathlib.Bridge.{le_prop}
use Rattle.digest.specs.declared.value.Digest.{Digest}

pub same_digest : (d e : Digest) → d.bytes ≡ e.bytes → d ≡ e
same_digest d e p = λ i.
    record {
      bytes = p i;
      whole = is_prop→PathP (λ j. length (p j) ≡ 32) (λ j. ℕ_set (length (p j)) 32) d.whole e.whole i;
      fits =
          is_prop→PathP (λ j. (k : ℕ) → k < 32 → get_or (p j) k 0 < 256) (λ j. Π_prop (λ k. Π_prop (λ h. le_prop))) d.fits e.fits i;
    }

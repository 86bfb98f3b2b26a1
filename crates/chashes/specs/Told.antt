-- How a hash's answer is told to C.
use Rattle.std.specs.Prelude.{ℕ, Ok, Err, Result}
use Rattle.digest.specs.declared.value.Digest.{Digest}
use Rattle.digest.specs.declared.refusal.Refusal.{Refusal}
use Rattle.digest.specs.Hashes.{refusal_number}
use Rattle.chashes.specs.declared.Place.{Place}

-- 0 for a digest, else the refusal's number
abbrev pub told : Result Digest Refusal → ℕ
told (Ok digest) = 0
told (Err refusal) = refusal_number refusal

-- what the caller's place holds then: the digest, or after a refusal what it held
abbrev pub placed : Result Digest Refusal → Place → Place
placed (Ok digest) old = record { bytes = digest.bytes }
placed (Err refusal) old = old

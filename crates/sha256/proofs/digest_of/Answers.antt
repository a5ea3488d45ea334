use Rattle.sha256_bytes.specs.Bytes.{bytes_of}
use Rattle.sha256.specs.Sha256.{initial, hash_from, sha256}
use Rattle.sha256.specs.Inner.{rest_from}
use mathlib.Core.Path.{◌≡◌, refl}
use mathlib.Core.List.{[]}
use Rattle.sha256.proofs.Blocks.{digest_is}
use Rattle.sha256.proofs.digest_of.Goals as goal

pub returns : goal.returns
unfolding hash_from
returns c =
    let m = c.args.m.now in
    let e : sha256 m ≡ bytes_of (rest_from initial 0 m) = digest_is 0 [] m refl in
    rw (c.to_bytes.ensures, c.hash_from.ensures, c.initial_state.ensures, e)

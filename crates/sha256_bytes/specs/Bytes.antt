-- FIPS 180-4, section 6.2.2, at the end: the hash value as bytes.
use Rattle.std.specs.Prelude.{ℕ, List, ◌++◌}
use Rattle.sha256_core.specs.declared.State.{State}
use Rattle.slices.specs.Bytes.{big_endian}

-- 6.2.2, at the end: the eight words as bytes
unfoldable pub bytes_of : State → List ℕ
bytes_of s =
    big_endian 4 s.a ++ big_endian 4 s.b ++ big_endian 4 s.c ++ big_endian 4 s.d
    ++ big_endian 4 s.e ++ big_endian 4 s.f ++ big_endian 4 s.g ++ big_endian 4 s.h

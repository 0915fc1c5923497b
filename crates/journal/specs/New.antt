-- Page 0 of format 2. Our own choice.
use Rattle.std.specs.Prelude.{ℕ, List, ◌++◌, replicate}
use Rattle.byteorder.specs.Endian.{big_bytes}
use Rattle.pagefile.specs.declared.header.FileHeader.{FileHeader}
use Rattle.journal.specs.Headers.{magic_2}

-- page 0 with these numbers, its gate shut, and zeros behind them
abbrev pub header_bytes_2 : FileHeader → List ℕ
header_bytes_2 h =
    magic_2 ++ big_bytes 4 h.page_count ++ big_bytes 4 h.first_free ++ big_bytes 4 h.catalog_root ++ replicate 4076 0

-- What both images of a torn disk have the same stands on it.
use Rattle.std.specs.Prelude.{ℕ, List, ◌≡◌, Some}
use Rattle.std.proofs.Common.{arith, sym, ◌∙◌, subst}
use Rattle.image.specs.Bytes.{Bytes}
use Rattle.chains.specs.Lists.{◌∈◌}
use Rattle.diskette.specs.Images.{kind_of_image}
use Rattle.diskette.proofs.Laws.Images.{image_of_kind}
use Rattle.diskette.specs.declared.Kind.{Kind}
use Rattle.sound.specs.Files.{IsFile, ChainOf}
use Rattle.sound.specs.Findings.{InChain}
use Rattle.sound.proofs.Laws.Sound.{chain_only}
use Rattle.calls.specs.Aids.Ready.{OnVolume}
use Rattle.calls.proofs.Laws.Ready.{on_usable, on_of_kind}
use Rattle.reset.specs.Torn.{Torn, Stands}
use Rattle.reset.specs.Aids.Same.{SameIn}
use Rattle.reset.proofs.Laws.Bytes.{byte_kept}
use Rattle.reset.proofs.Laws.Names.{torn_alone}
use Rattle.reset.proofs.Laws.Same.{same_then, same_torn, same_file, same_holds}

module _ (k : Kind) (old new m : List ℕ) (vo : OnVolume old k) (vn : OnVolume new k) (t : Torn old new m) where
  -- the disk is of the kind
  pub torn_kind : kind_of_image m ≡ Some k
  torn_kind =
      let o = on_of_kind old k vo in
      let n = on_of_kind new k vn in
      (image_of_kind m k).1 (record {
        listed = o.listed;
        long = t.long ∙ o.long;
        byte = byte_kept old new m t 512 (n.byte ∙ sym o.byte) ∙ o.byte;
      })

  -- l is an earlier image, which has the file with the clusters cs
  module _ (l : List ℕ) (v : OnVolume l k) (s : ℕ) (i : IsFile k l s) (cs : List ℕ) (own : ChainOf k l s cs) where
    mine : (c : ℕ) → InChain k l s c → c ∈ cs
    mine c r = subst (λ (xs : List ℕ). c ∈ xs) (chain_only k (on_usable l k v) l s r.1.0 cs r.1.1 own) r.1.2

    pub torn_stands : Bytes old → Bytes new → SameIn k s cs l old → SameIn k s cs old new → Stands k s l m
    torn_stands bo bn x y =
        let z = same_then k s cs l old m x (same_torn k s cs old new m bo bn t y) in
        record {
          entry = z.entry;
          values = λ c r. z.values c (mine c r);
          bytes = λ c j r h. z.bytes c _ (mine c r) (omega arith, omega arith);
          file = same_holds k l v s i cs own m z;
          alone = torn_alone k old new m vo vn t s (same_file k l v s i cs own m z) y.entry;
        }

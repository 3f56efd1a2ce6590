pub mod MirrorLaw

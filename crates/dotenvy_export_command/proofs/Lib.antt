mod Endings
mod KeptPairs
mod MergedFiles

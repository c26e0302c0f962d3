-- From the parts of the outline's call to the whole.
pub mod ScanLaws

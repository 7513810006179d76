mod Fixes
